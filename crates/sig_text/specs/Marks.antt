-- The marks of literals, as bytes.
use Rattle.std.specs.Prelude.{ℕ}

abbrev pub left_paren : ℕ
left_paren = 40

abbrev pub right_paren : ℕ
right_paren = 41

abbrev pub left_bracket : ℕ
left_bracket = 91

abbrev pub right_bracket : ℕ
right_bracket = 93

abbrev pub left_brace : ℕ
left_brace = 123

abbrev pub right_brace : ℕ
right_brace = 125

abbrev pub comma : ℕ
comma = 44

abbrev pub colon : ℕ
colon = 58

-- between the two labels of a sum
abbrev pub stroke : ℕ
stroke = 124

-- before the number of a label: it is added or taken away, asked for or barred
abbrev pub plus_sign : ℕ
plus_sign = 43

abbrev pub minus_sign : ℕ
minus_sign = 45

abbrev pub question_mark : ℕ
question_mark = 63

abbrev pub exclamation_mark : ℕ
exclamation_mark = 33
