-- The parts of a text as one list.
use Rattle.std.specs.Prelude.{◌≡◌, ℕ, ◌<◌, zero, suc, List, [], ◌∷◌, length, Option, Some, None, if◌then◌else◌, nat_le}
use Rattle.sig_text.specs.Numbers.{max_literal_number}
use Rattle.sig_text.specs.Parts.{Part, digits, Step, end, part, step_of}

-- the part that a step found, and those after it
abbrev pub parts_then : (List ℕ → List Part) → Step → List Part
parts_then f end = []
parts_then f (part p rest) = p ∷ f rest

-- the first parts of a text, so many at most
abbrev pub parts_within : ℕ → List ℕ → List Part
parts_within zero text = []
parts_within (suc count) text = parts_then (parts_within count) (step_of text)

-- the parts of a text, of which there are no more than bytes
unfoldable pub parts_of : List ℕ → List Part
parts_of text = parts_within (length text) text

-- the number, if it is at most the greatest
abbrev pub within : ℕ → ℕ → Option ℕ
within greatest n = if nat_le n greatest then Some n else None

-- digits that spell a number above that of any literal stand at the front
pub record LargeStep (step : Step) : Type 0 where
  pub number : ℕ
  pub rest : List ℕ
  pub is : step ≡ part (digits number) rest
  pub large : max_literal_number < number

-- the same of the parts of a text
pub record LargeFront (ps : List Part) : Type 0 where
  pub number : ℕ
  pub rest : List Part
  pub is : ps ≡ digits number ∷ rest
  pub large : max_literal_number < number
