-- The machine of label code: what comes of a row.
use Rattle.std.specs.Prelude.{◌≢◌, ℕ, zero, suc, List, [], ◌++◌, ◌∷◌}
use Rattle.label_code.specs.declared.operations.Op.{Op}
use Rattle.label_code.specs.Effects.{Effect, goes_on, denies, misses, effect}

-- what comes of a row
pub data Outcome : Type 0 where
  made : List ℕ → Outcome
  prohibited : Outcome
  -- the code doesn't fit the row: a word or an entry is wanting, a side is neither of two, a bit isn't one of a set's
  -- word, a sum is no word, or a jump passes the end
  stuck : Outcome

-- the outcome with these words written before its row
abbrev pub after_written : List ℕ → Outcome → Outcome
after_written written (made row) = made (written ++ row)
after_written written prohibited = prohibited
after_written written stuck = stuck

-- what comes of an effect, where the rest of the code makes of a jump and a row what `next` says
abbrev pub outcome : Effect → (ℕ → List ℕ → Outcome) → Outcome
outcome (goes_on written row jump) next = after_written written (next jump row)
outcome denies next = prohibited
outcome misses next = stuck

-- what the code makes of a row, once it has jumped over so many operations
abbrev pub run_over : ℕ → List Op → List ℕ → Outcome
run_over zero [] row = made []
run_over (suc n) [] row = stuck
run_over zero (op ∷ code) row = outcome (effect op row) (λ jump rest. run_over jump code rest)
run_over (suc n) (op ∷ code) row = run_over n code row

-- what the code makes of a row
abbrev pub RunCode : List Op → List ℕ → Outcome
RunCode code row = run_over 0 code row

-- the code fits the row: no word and no entry is ever missing, each side is one of two, each bit one of a set's word,
-- each sum a word, and no jump passes the end
abbrev pub Fits : List Op → List ℕ → Type 0
Fits code row = RunCode code row ≢ stuck
