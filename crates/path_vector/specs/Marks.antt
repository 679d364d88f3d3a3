-- Sets of numbers as words of bits.
use Rattle.std.specs.Prelude.{ℕ, ◌/◌, ◌%◌, ◌==◌, Bool, List, get_or}
use Rattle.std.specs.Int.{bit_at}
use Rattle.path_vector.specs.declared.marks.TheConstants.{WORD_BITS}

-- the number is marked in the words
abbrev pub is_marked : List ℕ → ℕ → Bool
is_marked words i = bit_at (get_or words (i / WORD_BITS) 0) (i % WORD_BITS) == 1
