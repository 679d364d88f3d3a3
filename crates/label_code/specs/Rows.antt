-- What a row in place holds, and what a run tells of a row.
use Rattle.std.specs.Prelude.{◌≡◌, ℕ, ◌<◌, ◌≤◌, List, [], ◌++◌, Bool, true, ◌&&◌, ◌==◌, nat_le, length, take}
use Rattle.label_code.specs.declared.operations.Run.{Run}
use Rattle.label_code.specs.declared.operations.Run.TheVariants.{Made, Prohibited}
use Rattle.label_code.specs.declared.words.Store.{Store}
use Rattle.label_code.specs.declared.words.Store.TheVariants.{Here, There}
use Rattle.label_code.specs.declared.words.TheConstants.{HERE}
use Rattle.label_code.specs.Machine.{Outcome, made, prohibited, stuck}

-- the words of a row
abbrev pub words_of : Store → List ℕ
words_of (Here short) = take short.len short.words
words_of (There words) = words.items

-- the words in place have room there
abbrev pub has_room : Store → Type 0
has_room (Here short) = short.len ≤ HERE
has_room (There words) = Unit {0}

-- the run tells what the outcome is: a new row, or that the value is prohibited
abbrev pub Reports : Run → List ℕ → Outcome → Type 0
Reports Made row o = o ≡ made row
Reports Prohibited row o = o ≡ prohibited

-- the row has so many words, which are few
abbrev pub has_width : ℕ → List ℕ → Bool
has_width width row = length row == width && nat_le width HERE

-- a new row, if there is one, is one of these
abbrev pub MakesOnly : (List ℕ → Bool) → Outcome → Type 0
MakesOnly is_one (made row) = is_one row ≡ true
MakesOnly is_one prohibited = Unit {0}
MakesOnly is_one stuck = Unit {0}

-- the words that were written: so many of those in place, and more
abbrev pub written_of : List ℕ → ℕ → List ℕ → List ℕ
written_of words len more = take len words ++ more

-- so many words stand in place, of n that have room there, and none elsewhere while there is room
pub record IsFilled (n len : ℕ) (more : List ℕ) : Type 0 where
  pub room : len ≤ n
  pub none_after : len < n → more ≡ []
