-- What each operation of label code does to a row that is read from the front.
use Rattle.std.specs.Prelude.{ℕ, zero, suc, ◌+◌, ◌-◌, ◌^◌, ◌==◌, List, [], ◌∷◌, ◌++◌, length, take, drop, Option, Some, None, if◌then◌else◌, nat_le, nat_lt, slice_get, min, max, bit_or, bit_and}
use Rattle.std.specs.List.{list_any}
use Rattle.std.specs.Int.{bit_at}
use Rattle.label_code.specs.declared.operations.Op.{Op}
use Rattle.label_code.specs.declared.operations.Op.TheVariants as op

-- what an operation does
pub data Effect : Type 0 where
  -- it writes these words, leaves these to be read, and jumps over so many operations
  goes_on : List ℕ → List ℕ → ℕ → Effect
  denies : Effect
  -- it isn't defined on the row
  misses : Effect

-- the word that is written where the row goes on
abbrev pub writes : ℕ → List ℕ → Effect
writes w row = goes_on (w ∷ []) row 0

-- the same where the word is one of the machine's
abbrev pub writes_word : ℕ → List ℕ → Effect
writes_word w row = if nat_lt w (2 ^ 128) then writes w row else misses

-- the effect where the bit is one of a set's word
abbrev pub for_bit : ℕ → Effect → Effect
for_bit k e = if nat_lt k 64 then e else misses

-- the effect where so many words are there
abbrev pub for_words : ℕ → List ℕ → Effect → Effect
for_words count row e = if nat_le count (length row) then e else misses

-- what a table's entry does
abbrev pub looks : Option (Option ℕ) → List ℕ → Effect
looks None row = misses
looks (Some None) row = denies
looks (Some (Some w)) row = writes w row

-- what a side does: the words that are written, and the jump after the second side
abbrev pub turns : ℕ → List ℕ → List ℕ → ℕ → Effect
turns zero written row jump = goes_on written row 0
turns (suc zero) written row jump = goes_on written row jump
turns (suc (suc n)) written row jump = misses

abbrev pub effect : Op → List ℕ → Effect
effect (op.Add n) (w ∷ row) = writes_word (w + n) row
effect (op.Add n) [] = misses
effect (op.Cap n k) (w ∷ row) = if nat_lt (w + n) (2 ^ 128) then (if nat_le (w + n) k then writes (w + n) row else denies) else misses
effect (op.Cap n k) [] = misses
effect (op.Max n) (w ∷ row) = writes (max w n) row
effect (op.Max n) [] = misses
effect (op.Min n) (w ∷ row) = writes (min w n) row
effect (op.Min n) [] = misses
effect op.Copy (w ∷ row) = writes w row
effect op.Copy [] = misses
effect op.Drop (w ∷ row) = goes_on [] row 0
effect op.Drop [] = misses
effect op.CopySeq (w ∷ row) = for_words w row (goes_on (w ∷ take w row) (drop w row) 0)
effect op.CopySeq [] = misses
effect op.DropSeq (w ∷ row) = for_words w row (goes_on [] (drop w row) 0)
effect op.DropSeq [] = misses
effect (op.Emit n) row = writes n row
effect (op.Append s) (w ∷ row) = for_words w row (goes_on ((w + 1) ∷ take w row ++ s ∷ []) (drop w row) 0)
effect (op.Append s) [] = misses
effect (op.Fresh s) (w ∷ row) = for_words w row (if list_any (λ m. m == s) (take w row) then denies else goes_on ((w + 1) ∷ take w row ++ s ∷ []) (drop w row) 0)
effect (op.Fresh s) [] = misses
effect (op.SetBit k) (w ∷ row) = for_bit k (writes (bit_or w (2 ^ k)) row)
effect (op.SetBit k) [] = misses
effect (op.ClearBit k) (w ∷ row) = for_bit k (writes (bit_and w (2 ^ 128 - 1 - 2 ^ k)) row)
effect (op.ClearBit k) [] = misses
effect (op.NeedBit k) (w ∷ row) = for_bit k (if bit_at w k == 1 then writes w row else denies)
effect (op.NeedBit k) [] = misses
effect (op.BarBit k) (w ∷ row) = for_bit k (if bit_at w k == 1 then denies else writes w row)
effect (op.BarBit k) [] = misses
effect (op.Look entries) (w ∷ row) = looks (slice_get entries w) row
effect (op.Look entries) [] = misses
effect op.Deny row = denies
effect (op.Fork n) (w ∷ row) = turns w (w ∷ []) row n
effect (op.Fork n) [] = misses
effect (op.Test n) (w ∷ row) = turns w [] row n
effect (op.Test n) [] = misses
effect (op.Skip n) row = goes_on [] row n
