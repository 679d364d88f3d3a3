-- Names of a table's values and rows.
use Rattle.std.specs.Prelude.{ℕ, List, Option, position}
use Rattle.std.specs.Str.{bytes_eq}

-- the place of the first of the things whose name is this word
abbrev pub place_among : {A : Type 0} → (A → List ℕ) → List A → List ℕ → Option ℕ
place_among name_of items word = position (λ item. bytes_eq (name_of item) word) items

-- the same among names
abbrev pub place_of : List (List ℕ) → List ℕ → Option ℕ
place_of names word = place_among (λ (name : List ℕ). name) names word
