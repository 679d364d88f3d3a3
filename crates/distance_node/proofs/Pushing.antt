-- Lists whose entries may be none, made or changed an entry at a time.
use Rattle.std.proofs.Common.{◌≡◌, ℕ, zero, suc, ◌+◌, ◌<◌, List, [], ◌∷◌, ◌++◌, Bool, true, false, ◌==◌, length, map, cond, slice_get, Option, Some, None, subst, refl, sym, ap, ◌∙◌, arith}
use Rattle.std.specs.Prelude.{IfSome, option_map, option_and_then}
use Rattle.std.specs.List.{range_with_len}
use Rattle.std.proofs.Math.ListN.{get_or, set}
use Rattle.std.proofs.lemmas.Bool.Decides.{nat_tests}
use Rattle.std.proofs.lemmas.Option.{slice_get-get_or, slice_get-map}
use Rattle.distance_node.specs.Chosen.{entry_of}

pub range_next : (a n : ℕ) → range_with_len a (suc n) ≡ range_with_len a n ++ (a + n) ∷ []
range_next a zero =
    let same : a ≡ a + 0 = omega arith in
    ap (λ z. z ∷ []) same
range_next a (suc n) =
    let same : a + 1 + n ≡ a + suc n = omega arith in
    ap (λ z. a ∷ z) (range_next (a + 1) n ∙ ap (λ z. range_with_len (a + 1) n ++ z ∷ []) same)

-- what stands in rows with one more
pub entry_pushed : {X : Type 0} (xs : List (Option X)) (y : Option X) (dest : ℕ) → entry_of (xs ++ y ∷ []) dest ≡ cond (dest == length xs) y (entry_of xs dest)
entry_pushed [] y zero = refl
entry_pushed [] y (suc dest) =
    let apart : (suc dest == 0) ≡ false = grind (arith, nat_tests) in
    rw apart refl
entry_pushed (x ∷ xs) y zero =
    let apart : (0 == suc (length xs)) ≡ false = grind (arith, nat_tests) in
    rw apart refl
entry_pushed (x ∷ xs) y (suc dest) =
    let same : (suc dest == suc (length xs)) ≡ (dest == length xs) = grind (arith, nat_tests) in
    rw same (entry_pushed xs y dest)

pub some_holds : {X : Type 0} (P : X → Type 0) (o : Option X) → ((x : X) → o ≡ Some x → P x) → IfSome o P
some_holds P None h = tt
some_holds P (Some x) h = h x refl

pub entry_outside : {X : Type 0} (xs : List (Option X)) (dest : ℕ) → ¬ (dest < length xs) → entry_of xs dest ≡ None
entry_outside [] dest out = refl
entry_outside (x ∷ xs) zero out = absurd (out (omega arith))
entry_outside (x ∷ xs) (suc dest) out = entry_outside xs dest (λ l. out (omega arith))

pub pushed_count : {X : Type 0} (xs : List X) (y : X) → length (xs ++ y ∷ []) ≡ length xs + 1
pushed_count [] y = refl
pushed_count (x ∷ xs) y =
    let more = pushed_count xs y in
    omega arith

pub pushed_holds : {X : Type 0} (P : X → Type 0) (xs : List (Option X)) (y : Option X) → ((d : ℕ) (x : X) → entry_of xs d ≡ Some x → P x) → IfSome y P → (d : ℕ) (x : X) → entry_of (xs ++ y ∷ []) d ≡ Some x → P x
pushed_holds {X = X} P xs y all last d x e = by (d == length xs) (sym (entry_pushed xs y d) ∙ e)
  where
    of : (o : Option X) → IfSome o P → o ≡ Some x → P x
    of None h f = absurd (cc)
    of (Some z) h f = let same : z ≡ x = cc in subst P same h

    by : (b : Bool) → cond b y (entry_of xs d) ≡ Some x → P x
    by true f = of y last f
    by false f = all d x f

pub pushed_images : {X Y : Type 0} (f : X → Y) (xs : List (Option X)) (y : Option X) (g : ℕ → Option Y) (place : ℕ) → length xs ≡ place
    → ((d : ℕ) → d < place → option_map f (entry_of xs d) ≡ g d) → option_map f y ≡ g place → (d : ℕ) → d < place + 1 → option_map f (entry_of (xs ++ y ∷ []) d) ≡ g d
pushed_images f xs y g place count all last d l = ap (option_map f) (entry_pushed xs y d) ∙ by (d == length xs) refl
  where
    by : (b : Bool) → (d == length xs) ≡ b → option_map f (cond b y (entry_of xs d)) ≡ g d
    by true e =
        let same : place ≡ d = grind (arith, nat_tests) in
        last ∙ ap g same
    by false e =
        let less : d < place = grind (arith, nat_tests) in
        all d less

pub set_length : {X : Type 0} (xs : List X) (i : ℕ) (y : X) → length (set xs i y) ≡ length xs
set_length [] i y = refl
set_length (x ∷ xs) zero y = refl
set_length (x ∷ xs) (suc i) y = ap (λ z. suc z) (set_length xs i y)

-- what stands in entries of which one was replaced
pub entry_set : {X : Type 0} (xs : List (Option X)) (i : ℕ) (y : Option X) (d : ℕ) → i < length xs → entry_of (set xs i y) d ≡ cond (d == i) y (entry_of xs d)
entry_set [] i y d l = absurd (omega arith)
entry_set (x ∷ xs) zero y zero l = refl
entry_set (x ∷ xs) zero y (suc d) l =
    let apart : (suc d == 0) ≡ false = grind (arith, nat_tests) in
    rw apart refl
entry_set (x ∷ xs) (suc i) y zero l =
    let apart : (0 == suc i) ≡ false = grind (arith, nat_tests) in
    rw apart refl
entry_set (x ∷ xs) (suc i) y (suc d) l =
    let same : (suc d == suc i) ≡ (d == i) = grind (arith, nat_tests) in
    rw same (entry_set xs i y d (omega arith))

-- what stands at a place of the entries
pub entry_or : {X : Type 0} (xs : List (Option X)) (i : ℕ) (x : Option X) → i < length xs → entry_of xs i ≡ get_or xs i x
entry_or xs i x l = ap (λ z. option_and_then (λ y. y) z) (slice_get-get_or xs i x l)

pub entry_is : {X : Type 0} (xs : List (Option X)) (i : ℕ) (x : Option X) → i < length xs → x ≡ get_or xs i x → entry_of xs i ≡ x
entry_is xs i x l e = entry_or xs i x l ∙ sym e

joined : {X Y : Type 0} (f : X → Y) (o : Option (Option X)) → option_and_then (λ x. x) (option_map (option_map f) o) ≡ option_map f (option_and_then (λ x. x) o)
joined f None = refl
joined f (Some o) = refl

-- the entry of images is the image of the entry
pub entry_mapped : {X Y : Type 0} (f : X → Y) (xs : List (Option X)) (k : ℕ) → entry_of (map (option_map f) xs) k ≡ option_map f (entry_of xs k)
entry_mapped f xs k = ap (option_and_then (λ x. x)) (slice_get-map (option_map f) xs k) ∙ joined f (slice_get xs k)
