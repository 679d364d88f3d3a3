-- Kinds of bytes, and fronts of one kind.
use Rattle.std.specs.Prelude.{ℕ, ◌+◌, ◌*◌, ◌-◌, List, [], ◌∷◌, Bool, false, ◌||◌, ◌&&◌, ◌==◌, nat_le, if◌then◌else◌}
use Rattle.std.specs.List.{list_all}

-- what ends a line
abbrev pub is_line_feed : ℕ → Bool
is_line_feed c = c == 10

-- space, tab, line feed, carriage return
abbrev pub is_space : ℕ → Bool
is_space c = c == 32 || c == 9 || c == 10 || c == 13

-- space or tab: what separates the words of a line
abbrev pub is_blank : ℕ → Bool
is_blank c = c == 32 || c == 9

-- `0` to `9`
abbrev pub is_digit : ℕ → Bool
is_digit c = nat_le 48 c && nat_le c 57

-- `a` to `z`, `A` to `Z` and `_`: what begins a word
abbrev pub is_letter : ℕ → Bool
is_letter c = (nat_le 97 c && nat_le c 122) || (nat_le 65 c && nat_le c 90) || c == 95

-- what goes on with a word
abbrev pub is_word_byte : ℕ → Bool
is_word_byte c = is_letter c || is_digit c

-- the longest front of bytes that pass
abbrev pub front : (ℕ → Bool) → List ℕ → List ℕ
front p [] = []
front p (c ∷ cs) = if p c then c ∷ front p cs else []

-- what comes after that front
abbrev pub after_front : (ℕ → Bool) → List ℕ → List ℕ
after_front p [] = []
after_front p (c ∷ cs) = if p c then after_front p cs else c ∷ cs

-- the number that these digits spell in base ten, after digits that spell n
abbrev pub number_from : ℕ → List ℕ → ℕ
number_from n [] = n
number_from n (c ∷ cs) = number_from (10 * n + (c - 48)) cs

-- a letter or `_`, and then letters, digits and `_`
abbrev pub is_word : List ℕ → Bool
is_word [] = false
is_word (c ∷ cs) = is_letter c && list_all is_word_byte cs
