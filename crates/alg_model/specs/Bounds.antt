-- Bounds on the numbers of expressions, values and labels.
use Rattle.std.specs.Prelude.{ℕ, ◌≤◌}
use Rattle.std.specs.List.{AllByRecursion}
use Rattle.alg_model.specs.Numbers.{limits_of}
use Rattle.alg_model.specs.declared.edition.Edition.{Edition}
use Rattle.alg_model.specs.Expressions.{Expression, add, cap, worst, width, pref, orig, seq, simseq, tags, guard, gate, table, lex, scoped, union, sum, plus, left, right}
use Rattle.alg_model.specs.Expressions.{PureValue, number, symbols, marks, unit, name, pair, first, second}
use Rattle.alg_model.specs.Expressions.{PureLabel, number_label, keep, symbol_label, mark, unmark, need, bar, allow, deny, row_label, pair_label, both_label, first_label, second_label, const_label, outer, inner}

-- the greatest number that a text of this edition may hold
abbrev pub greatest_number : Edition → ℕ
greatest_number e = (limits_of e).number

-- no number of the expression is above n
abbrev pub ExpressionAtMost : ℕ → Expression → Type 0
ExpressionAtMost n (add low high) = (low ≤ n) × (high ≤ n)
ExpressionAtMost n (cap top low high) = (top ≤ n) × (low ≤ n) × (high ≤ n)
ExpressionAtMost n (worst top low high) = (top ≤ n) × (low ≤ n) × (high ≤ n)
ExpressionAtMost n (width top low high) = (top ≤ n) × (low ≤ n) × (high ≤ n)
ExpressionAtMost n (pref top) = top ≤ n
ExpressionAtMost n (orig top) = top ≤ n
ExpressionAtMost n (seq k) = k ≤ n
ExpressionAtMost n (simseq k) = k ≤ n
ExpressionAtMost n (tags k) = k ≤ n
ExpressionAtMost n (guard k) = k ≤ n
ExpressionAtMost n gate = Unit {0}
ExpressionAtMost n (table t) = Unit {0}
ExpressionAtMost n (lex a b) = ExpressionAtMost n a × ExpressionAtMost n b
ExpressionAtMost n (scoped a b) = ExpressionAtMost n a × ExpressionAtMost n b
ExpressionAtMost n (union a b) = ExpressionAtMost n a × ExpressionAtMost n b
ExpressionAtMost n (sum a b) = ExpressionAtMost n a × ExpressionAtMost n b
ExpressionAtMost n (plus a b) = ExpressionAtMost n a × ExpressionAtMost n b
ExpressionAtMost n (left a) = ExpressionAtMost n a
ExpressionAtMost n (right a) = ExpressionAtMost n a

-- no number of the value is above n; the word of a set is no number
abbrev pub AtMost : ℕ → PureValue → Type 0
AtMost n (number m) = m ≤ n
AtMost n (symbols ms) = AllByRecursion (λ m. m ≤ n) ms
AtMost n (marks m) = Unit {0}
AtMost n unit = Unit {0}
AtMost n (name k) = Unit {0}
AtMost n (pair u v) = AtMost n u × AtMost n v
AtMost n (first u) = AtMost n u
AtMost n (second v) = AtMost n v

-- no number of the label is above n
abbrev pub LabelAtMost : ℕ → PureLabel → Type 0
LabelAtMost n (number_label m) = m ≤ n
LabelAtMost n (symbol_label m) = m ≤ n
LabelAtMost n (pair_label l m) = LabelAtMost n l × LabelAtMost n m
LabelAtMost n (both_label l m) = LabelAtMost n l × LabelAtMost n m
LabelAtMost n (first_label l) = LabelAtMost n l
LabelAtMost n (second_label m) = LabelAtMost n m
LabelAtMost n (const_label v) = AtMost n v
LabelAtMost n (outer l v) = LabelAtMost n l × AtMost n v
LabelAtMost n (inner m) = LabelAtMost n m
LabelAtMost n keep = Unit {0}
LabelAtMost n (mark k) = Unit {0}
LabelAtMost n (unmark k) = Unit {0}
LabelAtMost n (need k) = Unit {0}
LabelAtMost n (bar k) = Unit {0}
LabelAtMost n allow = Unit {0}
LabelAtMost n deny = Unit {0}
LabelAtMost n (row_label r) = Unit {0}
