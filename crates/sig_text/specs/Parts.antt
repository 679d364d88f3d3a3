-- The parts of a literal: its words, its runs of digits and its single marks. Spaces and tabs may stand
-- round each part.
use Rattle.std.specs.Prelude.{◌≡◌, ℕ, List, [], ◌∷◌, if◌then◌else◌}
use Rattle.meta_base.specs.Bytes.{is_blank, is_digit, is_letter, is_word_byte, front, after_front, number_from}

pub data Part : Type 0 where
  word : List ℕ → Part
  -- the number that a run of digits spells
  digits : ℕ → Part
  -- a byte that is neither blank nor part of a word or a run
  mark : ℕ → Part

-- what stands at the front: nothing, or a part and what comes after it
pub data Step : Type 0 where
  end : Step
  part : Part → List ℕ → Step

-- the longest part of a text that begins with no blank
abbrev pub part_at : List ℕ → Step
part_at [] = end
part_at (c ∷ cs) =
    if is_letter c then part (word (front is_word_byte (c ∷ cs))) (after_front is_word_byte (c ∷ cs)) else
    (if is_digit c then part (digits (number_from 0 (front is_digit (c ∷ cs)))) (after_front is_digit (c ∷ cs)) else
    part (mark c) cs)

-- blanks are skipped, and the longest part is taken
abbrev pub step_of : List ℕ → Step
step_of text = part_at (after_front is_blank text)

-- these parts stand at the front of the text, and this comes after them
abbrev pub Begins : List Part → List ℕ → List ℕ → Type 0
Begins [] text rest = text ≡ rest
Begins (p ∷ ps) text rest = (mid : List ℕ) × (step_of text ≡ part p mid) × Begins ps mid rest

-- these are the parts of the text, all of it
pub record Splits (ps : List Part) (text : List ℕ) : Type 0 where
  pub rest : List ℕ
  pub begins : Begins ps text rest
  pub ends : step_of rest ≡ end
