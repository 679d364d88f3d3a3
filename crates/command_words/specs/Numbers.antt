-- Numbers among the words.
use Rattle.std.specs.Prelude.{ℕ, List, length, Bool, ◌&&◌, nat_le, Option, Some, None, if◌then◌else◌}
use Rattle.std.specs.List.{list_all}
use Rattle.meta_base.specs.Bytes.{is_digit, number_from}

-- 1 to 20 digits
abbrev pub is_number : List ℕ → Bool
is_number word = list_all is_digit word && nat_le 1 (length word) && nat_le (length word) 20

-- the number that the word spells, if it spells one of that range
abbrev pub number_within : ℕ → ℕ → List ℕ → Option ℕ
number_within least greatest word =
    let n = number_from 0 word in
    if is_number word && nat_le least n && nat_le n greatest then Some n else None
