-- Sets of numbers as words of bits.
use Rattle.std.specs.Prelude.{ℕ, ◌<◌, length, ◌/◌, ◌%◌, ◌==◌, Bool, List, get_or}
use Rattle.std.specs.Int.{bit_at}
use Rattle.number_sets.specs.declared.number_set.TheConstants.{WORD_BITS}

-- the number is in the set; none past the words is
abbrev pub has_number : List ℕ → ℕ → Bool
has_number words i = bit_at (get_or words (i / WORD_BITS) 0) (i % WORD_BITS) == 1

-- there is a word with the bit of the number
abbrev pub HasRoomFor : List ℕ → ℕ → Type 0
HasRoomFor words i = i / WORD_BITS < length words
