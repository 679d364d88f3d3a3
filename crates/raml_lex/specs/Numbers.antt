-- Numbers that are read from digits.
use Rattle.std.specs.Prelude.{◌≡◌, ℕ, ◌<◌, ◌≤◌, List, take, drop, length, nat_le, Option, Some, None, if◌then◌else◌}
use Rattle.meta_base.specs.Bytes.{is_digit, front, after_front, number_from}

-- the number, if it is at most the greatest
abbrev pub at_most : ℕ → ℕ → Option ℕ
at_most greatest n = if nat_le n greatest then Some n else None

-- the digits at the front were read, len of them
pub record Spells (greatest : ℕ) (text : List ℕ) (n len : ℕ) : Type 0 where
  pub value : n ≡ number_from 0 (front is_digit text)
  pub small : n ≤ greatest
  pub within : len ≤ length text
  pub front : take len text ≡ front is_digit text
  pub after_front : drop len text ≡ after_front is_digit text

-- those digits spell a number above the greatest, or they were read
abbrev pub SpellsAtMost : ℕ → List ℕ → Option (ℕ × ℕ) → Type 0
SpellsAtMost greatest text None = greatest < number_from 0 (front is_digit text)
SpellsAtMost greatest text (Some (n, len)) = Spells greatest text n len
