-- Sums below a bound, and the lengths of what lies on the arcs of a network. Lemmas, so that proofs of other crates
-- may cite them.
use Rattle.std.proofs.Common.{◌≡◌, ◌≢◌, ℕ, zero, suc, ◌+◌, ◌<◌, ◌≤◌, Bool, true, false, cond, List, [], ◌∷◌, length, refl, sym, ◌∙◌, ap, ap₂, arith}
use Rattle.std.proofs.lemmas.Bool.{eqb-true, eqb-false, false_from_ne_true}
use Rattle.std.specs.Prelude.{◌==◌}
use Rattle.std.specs.List.{AllByRecursion}
use Rattle.node_core.specs.Kinds.{on_arc}
use Rattle.node_core.specs.MachineLaws.{same_test}
use Rattle.woven_laws.specs.Counts.{total}

pub total_same : (n : ℕ) (f g : ℕ → ℕ) → ((i : ℕ) → i < n → f i ≡ g i) → total n f ≡ total n g
total_same zero f g e = refl
total_same (suc n) f g e = ap₂ (λ x y. x + y) (total_same n f g (λ i lt. e i (omega arith))) (e n (omega arith))

pub total_plus : (n : ℕ) (f g : ℕ → ℕ) → total n (λ i. f i + g i) ≡ total n f + total n g
total_plus zero f g = refl
total_plus (suc n) f g = let r = total_plus n f g in omega arith

pub total_zero : (n : ℕ) (f : ℕ → ℕ) → ((i : ℕ) → i < n → f i ≡ 0) → total n f ≡ 0
total_zero zero f e = refl
total_zero (suc n) f e =
    let r = total_zero n f (λ i lt. e i (omega arith)) in
    let last : f n ≡ 0 = e n (omega arith) in
    omega arith

pub total_below : (n : ℕ) (f g : ℕ → ℕ) → ((i : ℕ) → i < n → f i ≤ g i) → total n f ≤ total n g
total_below zero f g below = omega arith
total_below (suc n) f g below =
    let rest = total_below n f g (λ i lt. below i (omega arith)) in
    let last : f n ≤ g n = below n (omega arith) in
    omega arith

-- a sum that is 0 is 0 everywhere
pub zero_total : (n : ℕ) (f : ℕ → ℕ) → total n f ≡ 0 → (i : ℕ) → i < n → f i ≡ 0
zero_total zero f e i lt = absurd (omega arith)
zero_total (suc n) f e i lt = by (i == n) refl (zero_total n f (omega arith) i)
  where
    by : (b : Bool) → (i == n) ≡ b → (i < n → f i ≡ 0) → f i ≡ 0
    by true t r = let is : i ≡ n = eqb-true i n t in let z : f n ≡ 0 = omega arith in rw is z
    by false t r = let ne : i ≢ n = eqb-false i n t in r (omega arith)

-- sums of rows and of columns
pub total_swap : (m n : ℕ) (f : ℕ → ℕ → ℕ) → total m (λ a. total n (λ i. f a i)) ≡ total n (λ i. total m (λ a. f a i))
total_swap zero n f = sym (total_zero n (λ i. 0) (λ i lt. refl))
total_swap (suc m) n f = ap (λ x. x + total n (λ i. f m i)) (total_swap m n f) ∙ sym (total_plus n (λ i. total m (λ a. f a i)) (λ i. f m i))

-- a sum of which all but one is 0
pub total_at : (n i : ℕ) (f : ℕ → ℕ) → i < n → ((j : ℕ) → (j == i) ≡ false → f j ≡ 0) → total n f ≡ f i
total_at zero i f lt other = absurd (omega arith)
total_at (suc n) i f lt other = by (n == i) refl (total_at n i f)
  where
    apart : n ≡ i → (j : ℕ) → j < n → (j == i) ≡ false
    apart is j below = false_from_ne_true (j == i) (λ e. let same : j ≡ i = eqb-true j i e in absurd (omega arith))

    by : (b : Bool) → (n == i) ≡ b → (i < n → ((j : ℕ) → (j == i) ≡ false → f j ≡ 0) → total n f ≡ f i) → total n f + f n ≡ f i
    by true t r =
        let is : n ≡ i = eqb-true n i t in
        let rest : total n f ≡ 0 = total_zero n f (λ j below. other j (apart is j below)) in
        let same : f n ≡ f i = ap f is in
        omega arith
    by false t r =
        let ne : n ≢ i = eqb-false n i t in
        let last : f n ≡ 0 = other n t in
        let rest : total n f ≡ f i = r (omega arith) other in
        omega arith

abbrev pub mark : Bool → ℕ
mark true = 1
mark false = 0

-- one at a, and 0 elsewhere
pub total_one : (n a : ℕ) → a < n → total n (λ i. mark (a == i)) ≡ 1
total_one n a lt = total_at n a (λ i. mark (a == i)) lt (λ j ne. ap mark (false_from_ne_true (a == j) (λ e. eqb-false j a ne (sym (eqb-true a j e))))) ∙ ap mark (same_test a)

-- each message of a list is on one arc
pub on_arc_total : {M : Type 0} (n : ℕ) (ps : List (ℕ × M)) → AllByRecursion (λ (p : ℕ × M). p.0 < n) ps → total n (λ a. length (on_arc a ps)) ≡ length ps
on_arc_total n [] all = total_zero n (λ a. 0) (λ a lt. refl)
on_arc_total n (p ∷ ps) all =
    let r = on_arc_total n ps all.1 in
    let one = total_one n p.0 all.0 in
    let split : total n (λ a. length (cond (p.0 == a) (p.1 ∷ on_arc a ps) (on_arc a ps))) ≡ total n (λ a. mark (p.0 == a) + length (on_arc a ps)) =
    total_same n (λ a. length (cond (p.0 == a) (p.1 ∷ on_arc a ps) (on_arc a ps))) (λ a. mark (p.0 == a) + length (on_arc a ps)) (λ a lt. by a (p.0 == a)) in
    split ∙ (total_plus n (λ a. mark (p.0 == a)) (λ a. length (on_arc a ps)) ∙ omega arith)
  where
    by : (a : ℕ) (b : Bool) → length (cond b (p.1 ∷ on_arc a ps) (on_arc a ps)) ≡ mark b + length (on_arc a ps)
    by a true = omega arith
    by a false = omega arith
