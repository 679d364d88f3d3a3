-- What stands in lists whose entries may be none. Lemmas, so that proofs of other crates may cite them.
use Rattle.std.proofs.Common.{◌≡◌, ℕ, zero, suc, ◌<◌, List, [], ◌∷◌, Bool, true, false, filter, map, slice_get, Option, Some, None, refl, arith}
use Rattle.std.specs.List.{find, list_all}
use Rattle.distance_node.specs.Chosen.{entry_of}
use Rattle.distance_node.specs.Node.{Hop, hops_of}

-- a test that all entries pass
pub all_entries : (q : Hop → Bool) (os : List (Option Hop)) → ((k : ℕ) (g : Hop) → entry_of os k ≡ Some g → q g ≡ true) → list_all q (hops_of os) ≡ true
all_entries q [] f = refl
all_entries q (None ∷ os) f = all_entries q os (λ k g e. f (suc k) g e)
all_entries q (Some h ∷ os) f = rw (f 0 h refl) (all_entries q os (λ k g e. f (suc k) g e))

pub entries_all : (q : Hop → Bool) (os : List (Option Hop)) → list_all q (hops_of os) ≡ true → (k : ℕ) (g : Hop) → entry_of os k ≡ Some g → q g ≡ true
entries_all q [] e k g f = absurd (cc)
entries_all q (None ∷ os) e zero g f = absurd (cc)
entries_all q (None ∷ os) e (suc k) g f = entries_all q os e k g f
entries_all q (Some h ∷ os) e k g f = by (λ n j. entries_all q os n j g) (q h) refl k f
  where
    by : (list_all q (hops_of os) ≡ true → (j : ℕ) → entry_of os j ≡ Some g → q g ≡ true) → (b : Bool) → q h ≡ b → (k : ℕ) → entry_of (Some h ∷ os) k ≡ Some g → q g ≡ true
    by rest true p zero f =
        let same : h ≡ g = cc in
        rw same at p
    by rest true p (suc k) f = rest (rw p at e) k f
    by rest false p k f = absurd (let n : false ≡ true = rw p at e in cc)

-- the first entry that passes is found
pub find_entry : (q : Hop → Bool) (os : List (Option Hop)) (place : ℕ) (h : Hop) → entry_of os place ≡ Some h → q h ≡ true
    → ((k : ℕ) (g : Hop) → k < place → entry_of os k ≡ Some g → q g ≡ false) → find q (hops_of os) ≡ Some h
find_entry q [] place h e p f = absurd (cc)
find_entry q (None ∷ os) zero h e p f = absurd (cc)
find_entry q (None ∷ os) (suc place) h e p f = find_entry q os place h e p (λ k g l. f (suc k) g (omega (arith, l)))
find_entry q (Some g ∷ os) zero h e p f =
    let same : g ≡ h = cc in
    rw (same, p) refl
find_entry q (Some g ∷ os) (suc place) h e p f = rw (f 0 g (omega arith) refl) (find_entry q os place h e p (λ k x l. f (suc k) x (omega (arith, l))))

-- and what is found is an entry that passes
pub found_entry : (q : Hop → Bool) (os : List (Option Hop)) (h : Hop) → find q (hops_of os) ≡ Some h → (k : ℕ) × (entry_of os k ≡ Some h) × (q h ≡ true)
found_entry q [] h e = absurd (cc)
found_entry q (None ∷ os) h e = let more = found_entry q os h e in (suc more.0, more.1, more.2)
found_entry q (Some g ∷ os) h e = by (q g) refl (found_entry q os h)
  where
    by : (b : Bool) → q g ≡ b → (find q (hops_of os) ≡ Some h → (k : ℕ) × (entry_of os k ≡ Some h) × (q h ≡ true)) → (k : ℕ) × (entry_of (Some g ∷ os) k ≡ Some h) × (q h ≡ true)
    by true p rest =
        let f : Some g ≡ Some h = rw p at e in
        let same : g ≡ h = cc in
        (0, f, rw same at p)
    by false p rest = let more = rest (rw p at e) in (suc more.0, more.1, more.2)

pub none_found : (q : Hop → Bool) (os : List (Option Hop)) → find q (hops_of os) ≡ None → (k : ℕ) (g : Hop) → entry_of os k ≡ Some g → q g ≡ false
none_found q [] e k g f = absurd (cc)
none_found q (None ∷ os) e zero g f = absurd (cc)
none_found q (None ∷ os) e (suc k) g f = none_found q os e k g f
none_found q (Some h ∷ os) e k g f = by (λ n j. none_found q os n j g) (q h) refl k f
  where
    by : (find q (hops_of os) ≡ None → (j : ℕ) → entry_of os j ≡ Some g → q g ≡ false) → (b : Bool) → q h ≡ b → (k : ℕ) → entry_of (Some h ∷ os) k ≡ Some g → q g ≡ false
    by rest true p k f = absurd (let n : Some h ≡ None = rw p at e in cc)
    by rest false p zero f =
        let same : h ≡ g = cc in
        rw same at p
    by rest false p (suc k) f = rest (rw p at e) k f

-- no entry is found where there is none
pub nothing_found : (q : Hop → Bool) (os : List (Option Hop)) → ((k : ℕ) → entry_of os k ≡ None) → find q (hops_of os) ≡ None
nothing_found q [] none = refl
nothing_found q (None ∷ os) none = nothing_found q os (λ k. none (suc k))
nothing_found q (Some h ∷ os) none = absurd (let n : Some h ≡ None = none 0 in cc)

-- ---- items of other lists

-- functions that are alike on the items of a list
pub map_alike : {X Y : Type 0} (f g : X → Y) (xs : List X) → ((k : ℕ) (x : X) → slice_get xs k ≡ Some x → f x ≡ g x) → map f xs ≡ map g xs
map_alike f g [] same = refl
map_alike f g (x ∷ xs) same = rw (same 0 x refl, map_alike f g xs (λ k y e. same (suc k) y e)) refl

-- what is found, and passes another test, stands among those that pass it
pub found_filtered : {X : Type 0} (p q : X → Bool) (xs : List X) (x : X) → find p xs ≡ Some x → q x ≡ true → (k : ℕ) × (slice_get (filter q xs) k ≡ Some x)
found_filtered p q [] x e h = absurd (cc)
found_filtered {X} p q (y ∷ ys) x e h = by (p y) refl (q y) refl (λ f. found_filtered p q ys x f h)
  where
    by : (b : Bool) → p y ≡ b → (c : Bool) → q y ≡ c → (find p ys ≡ Some x → (k : ℕ) × (slice_get (filter q ys) k ≡ Some x)) → (k : ℕ) × (slice_get (filter q (y ∷ ys)) k ≡ Some x)
    by true f true g rest =
        let one : Some y ≡ Some x = rw f at e in
        (0, rw g one)
    by true f false g rest =
        let one : Some y ≡ Some x = rw f at e in
        let same : y ≡ x = cc in
        absurd (let n : q x ≡ false = rw same at g in cc)
    by false f true g rest = let more = rest (rw f at e) in (suc more.0, rw g more.1)
    by false f false g rest = let more = rest (rw f at e) in (more.0, rw g more.1)
