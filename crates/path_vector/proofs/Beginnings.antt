-- What a node tells when it begins, a destination after another.
use Rattle.std.proofs.Common.{◌≡◌, ℕ, zero, suc, ◌+◌, ◌<◌, List, [], ◌∷◌, ◌++◌, Bool, true, false, not, length, cond, Option, Some, None, subst, refl, sym, ap, ◌∙◌, arith}
use Rattle.std.specs.Prelude.{filter, is_some, ◌==◌, nat_lt, IfSome, option_map}
use Rattle.std.proofs.lemmas.Bool.Decides.{nat_tests}
use Rattle.path_vector.specs.Known.{entry_of}
use Rattle.std.specs.List.{range_with_len}
use Rattle.std.proofs.Math.Path.{fun_ext}
use Rattle.std.proofs.lemmas.List.{append_assoc}
use Rattle.net_graph.specs.Nets.{PureArc, PureNet, arcs_to}
use Rattle.net_graph.specs.Routes.{PureRoute}
use Rattle.path_vector.specs.Node.{PvState, PureUpdate, all_begun_updates, begun_updates, choice, same_row, reported_on}
use Rattle.path_vector.specs.Updates.{spoken_in}

-- a node with this network, which comes from that one, and has heard and kept these routes
pub record IsUnbegun (net : PureNet) (before : Option PureNet) (number : ℕ) (heard : ℕ → ℕ → Option PureRoute) (rows : ℕ → Option PureRoute) (s : PvState) : Type 0 where
  pub net_is : s.net ≡ net
  pub before_is : s.before ≡ before
  pub number_is : s.number ≡ number
  pub heard_is : s.heard ≡ heard
  pub rows_are : s.rows ≡ rows

pub range_next : (a n : ℕ) → range_with_len a (suc n) ≡ range_with_len a n ++ (a + n) ∷ []
range_next a zero =
    let same : a ≡ a + 0 = omega arith in
    ap (λ z. z ∷ []) same
range_next a (suc n) =
    let same : a + 1 + n ≡ a + suc n = omega arith in
    ap (λ z. a ∷ z) (range_next (a + 1) n ∙ ap (λ z. range_with_len (a + 1) n ++ z ∷ []) same)

begun_append : (s : PvState) (xs ys : List ℕ) → all_begun_updates s (xs ++ ys) ≡ all_begun_updates s xs ++ all_begun_updates s ys
begun_append s [] ys = refl
begun_append s (x ∷ xs) ys = ap (λ z. begun_updates s x ++ z) (begun_append s xs ys) ∙ sym (append_assoc (begun_updates s x) (all_begun_updates s xs) (all_begun_updates s ys))

begun_one : (s : PvState) (dest : ℕ) → all_begun_updates s (dest ∷ []) ≡ begun_updates s dest
begun_one s dest = nothing_more (begun_updates s dest)
  where
    nothing_more : (xs : List (ℕ × PureUpdate)) → xs ++ [] ≡ xs
    nothing_more [] = refl
    nothing_more (x ∷ xs) = ap (λ z. x ∷ z) (nothing_more xs)

module _ (net : PureNet) (before : Option PureNet) (number : ℕ) (heard : ℕ → ℕ → Option PureRoute) (rows : ℕ → Option PureRoute) (s : PvState) (is : IsUnbegun net before number heard rows s) where
  -- what is reported of one row
  abbrev pub reported_of : ℕ → Option PureRoute → Bool → List (ℕ × PureUpdate)
  reported_of dest row is_other = reported_on (filter (λ (a : PureArc). cond (spoken_in before a.tail a.head) is_other (is_some row)) (arcs_to net number)) (record { dest = dest; route = row; stamp = 0 })

  begun_is : (dest : ℕ) → begun_updates s dest ≡ reported_of dest (choice net dest number heard) (not (same_row (choice net dest number heard) (rows dest)))
  begun_is dest = rw (is.net_is, is.before_is, is.number_is, is.heard_is, is.rows_are) refl

  -- one destination more
  pub begun_next : (dest : ℕ) (row : Option PureRoute) (is_other : Bool) (reported more : List (ℕ × PureUpdate)) → row ≡ choice net dest number heard → is_other ≡ not (same_row row (rows dest))
      → reported ≡ all_begun_updates s (range_with_len 0 dest) → more ≡ reported ++ reported_of dest row is_other → more ≡ all_begun_updates s (range_with_len 0 (dest + 1))
  begun_next dest row is_other reported more chosen other so next =
      let place : 0 + dest ≡ dest = omega arith in
      let last : suc dest ≡ dest + 1 = omega arith in
      next ∙ ap (λ z. z ++ reported_of dest row is_other) so
      ∙ ap (λ z. all_begun_updates s (range_with_len 0 dest) ++ z) (rw (other, chosen) refl ∙ sym (begun_is dest) ∙ sym (begun_one s dest))
      ∙ sym (begun_append s (range_with_len 0 dest) (dest ∷ []))
      ∙ ap (λ z. all_begun_updates s (range_with_len 0 dest ++ z ∷ [])) (sym place)
      ∙ ap (all_begun_updates s) (sym (range_next 0 dest))
      ∙ ap (λ z. all_begun_updates s (range_with_len 0 z)) last

-- ---- rows

-- what stands in rows with one more
pub entry_pushed : {X : Type 0} (xs : List (Option X)) (y : Option X) (dest : ℕ) → entry_of (xs ++ y ∷ []) dest ≡ cond (dest == length xs) y (entry_of xs dest)
entry_pushed [] y zero = refl
entry_pushed [] y (suc dest) =
    let apart : (suc dest == 0) ≡ false = grind (arith, nat_tests) in
    rw apart refl
entry_pushed (x ∷ xs) y zero =
    let apart : (0 == suc (length xs)) ≡ false = grind (arith, nat_tests) in
    rw apart refl
entry_pushed (x ∷ xs) y (suc dest) =
    let same : (suc dest == suc (length xs)) ≡ (dest == length xs) = grind (arith, nat_tests) in
    rw same (entry_pushed xs y dest)

pub some_holds : {X : Type 0} (P : X → Type 0) (o : Option X) → ((x : X) → o ≡ Some x → P x) → IfSome o P
some_holds P None h = tt
some_holds P (Some x) h = h x refl

pub entry_outside : {X : Type 0} (xs : List (Option X)) (dest : ℕ) → ¬ (dest < length xs) → entry_of xs dest ≡ None
entry_outside [] dest out = refl
entry_outside (x ∷ xs) zero out = absurd (out (omega arith))
entry_outside (x ∷ xs) (suc dest) out = entry_outside xs dest (λ l. out (omega arith))

-- rows that are these below a bound, and none beyond it
pub rows_are_all : (f g : ℕ → Option PureRoute) (bound : ℕ) → ((dest : ℕ) → dest < bound → f dest ≡ g dest) → ((dest : ℕ) → ¬ (dest < bound) → f dest ≡ g dest) → f ≡ g
rows_are_all f g bound below beyond = fun_ext (λ dest. by dest (nat_lt dest bound) refl)
  where
    by : (dest : ℕ) (b : Bool) → nat_lt dest bound ≡ b → f dest ≡ g dest
    by dest true e = below dest (grind (arith, nat_tests))
    by dest false e = beyond dest (λ l. let m = l in grind (arith, nat_tests))

pub pushed_count : {X : Type 0} (xs : List X) (y : X) → length (xs ++ y ∷ []) ≡ length xs + 1
pushed_count [] y = refl
pushed_count (x ∷ xs) y =
    let more = pushed_count xs y in
    omega arith

pub pushed_holds : {X : Type 0} (P : X → Type 0) (xs : List (Option X)) (y : Option X) → ((d : ℕ) (x : X) → entry_of xs d ≡ Some x → P x) → IfSome y P → (d : ℕ) (x : X) → entry_of (xs ++ y ∷ []) d ≡ Some x → P x
pushed_holds {X = X} P xs y all last d x e = by (d == length xs) (sym (entry_pushed xs y d) ∙ e)
  where
    of : (o : Option X) → IfSome o P → o ≡ Some x → P x
    of None h f = absurd (cc)
    of (Some z) h f = let same : z ≡ x = cc in subst P same h

    by : (b : Bool) → cond b y (entry_of xs d) ≡ Some x → P x
    by true f = of y last f
    by false f = all d x f

pub pushed_images : {X Y : Type 0} (f : X → Y) (xs : List (Option X)) (y : Option X) (g : ℕ → Option Y) (place : ℕ) → length xs ≡ place
    → ((d : ℕ) → d < place → option_map f (entry_of xs d) ≡ g d) → option_map f y ≡ g place → (d : ℕ) → d < place + 1 → option_map f (entry_of (xs ++ y ∷ []) d) ≡ g d
pushed_images f xs y g place count all last d l = ap (option_map f) (entry_pushed xs y d) ∙ by (d == length xs) refl
  where
    by : (b : Bool) → (d == length xs) ≡ b → option_map f (cond b y (entry_of xs d)) ≡ g d
    by true e =
        let same : place ≡ d = grind (arith, nat_tests) in
        last ∙ ap g same
    by false e =
        let less : d < place = grind (arith, nat_tests) in
        all d less

pub some_mapped : {X Y : Type 0} (f : X → Y) (o : Option X) → is_some o ≡ is_some (option_map f o)
some_mapped f None = refl
some_mapped f (Some x) = refl
