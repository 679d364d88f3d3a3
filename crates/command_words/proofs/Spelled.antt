-- What a text of digits parses to is the number that they spell.
use Rattle.std.proofs.Common.{◌≡◌, ℕ, ◌<◌, ◌≤◌, ◌^◌, List, length, true, nat_le, Option, Some, None, Result, Ok, Err, if◌then◌else◌, ◌&&◌, sym, rules, arith}
use Rattle.std.specs.Str.Parse.{ParsesUnsigned}
use Rattle.std.specs.Result.{OkIff, result_ok}
use Rattle.std.specs.List.{list_all}
use Rattle.std.proofs.lemmas.Str.Parse.{IsNumeralModel, numerals_by_fold, parse_digits}
use Rattle.std.proofs.lemmas.Bool.Decides.{nat_tests}
use Rattle.meta_base.specs.Bytes.{is_digit, number_from}
use Rattle.command_words.specs.Numbers.{number_within}

spells : IsNumeralModel (λ text. list_all is_digit text ≡ true) (number_from 0)
spells = numerals_by_fold _ (search rules) number_from (search rules)

-- the number, if it is in the range
abbrev pub in_range : ℕ → ℕ → Option ℕ → Option ℕ
in_range least greatest None = None
in_range least greatest (Some n) = if nat_le least n && nat_le n greatest then Some n else None

no_number : (least greatest len n : ℕ) → greatest < 2 ^ 64 → ((0 < len) × (n < 2 ^ 64) → ⊥)
    → (if true && nat_le 1 len && nat_le len 20 && nat_le least n && nat_le n greatest then Some n else None) ≡ None
no_number least greatest len n g out = grind (arith, nat_tests)

some_number : (least greatest len n : ℕ) → 0 < len → len ≤ 20
    → (if true && nat_le 1 len && nat_le len 20 && nat_le least n && nat_le n greatest then Some n else None) ≡ in_range least greatest (Some n)
some_number least greatest len n some few = grind (arith, nat_tests)

parsed : {E : Type 0} (least greatest : ℕ) (text : List ℕ) (r : Result ℕ E) → greatest < 2 ^ 64 → length text ≤ 20 → list_all is_digit text ≡ true
    → OkIff r ((0 < length text) × (number_from 0 text < 2 ^ 64)) (number_from 0 text) → in_range least greatest (result_ok r) ≡ number_within least greatest text
parsed least greatest text (Ok x) g few digits h = rw (h.1, digits) (sym (some_number least greatest (length text) (number_from 0 text) h.0.0 few))
parsed least greatest text (Err e) g few digits h = rw digits (sym (no_number least greatest (length text) (number_from 0 text) g h))

-- a text of at most 20 digits that is parsed
pub parsed_within : {E : Type 0} (least greatest : ℕ) (text : List ℕ) (r : Result ℕ E) → greatest < 2 ^ 64 → length text ≤ 20 → list_all is_digit text ≡ true
    → ParsesUnsigned 64 10 text r → in_range least greatest (result_ok r) ≡ number_within least greatest text
parsed_within least greatest text r g few digits h = parsed least greatest text r g few digits (parse_digits spells 64 text r h digits)
