-- What a label's facts depend on.
use Rattle.std.specs.Prelude.{ℕ, Bool, true, false}
use Rattle.alg_model.specs.Expressions.{PureLabel, number_label, symbol_label, mark, unmark, need, bar, allow}

-- the number that the label holds, or 0
abbrev pub number_in : PureLabel → ℕ
number_in (number_label n) = n
number_in (symbol_label n) = n
number_in (mark k) = k
number_in (unmark k) = k
number_in (need k) = k
number_in (bar k) = k
number_in _ = 0

-- the label lets all pass
abbrev pub is_allow : PureLabel → Bool
is_allow allow = true
is_allow _ = false
