-- A word among names.
use Rattle.std.proofs.Common.{◌≡◌, ℕ, Bool, true, false, ◌||◌, List, [], ◌∷◌, zero, suc, take, drop, refl}
use Rattle.std.specs.Str.{bytes_eq}
use Rattle.raml_syntax.specs.Syntax.{is_among}

-- it is one of them where it is one of the last or one of the first
pub among_parts : (names : List (List ℕ)) (w : List ℕ) (k : ℕ) → (is_among (drop k names) w || is_among (take k names) w) ≡ is_among names w
among_parts [] w zero = refl
among_parts [] w (suc k) = refl
among_parts (n ∷ names) w zero = or_false (is_among (n ∷ names) w)
  where
    or_false : (b : Bool) → (b || false) ≡ b
    or_false true = refl
    or_false false = refl
among_parts (n ∷ names) w (suc k) = by (bytes_eq n w) (is_among (drop k names) w) (among_parts names w k)
  where
    by : (b c : Bool) → (c || is_among (take k names) w) ≡ is_among names w → (c || (b || is_among (take k names) w)) ≡ (b || is_among names w)
    by false c h = h
    by true true h = refl
    by true false h = refl
