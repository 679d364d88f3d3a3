-- Laws of the labels of a table. Lemmas, so that proofs of other crates may cite them.
use Rattle.std.proofs.Common.{ℕ}
use Rattle.alg_model.specs.Expressions.{Expression, table, PureLabel, row_label}
use Rattle.alg_model.specs.Application.{IsLabel}
use Rattle.alg_model.specs.Bounds.{LabelAtMost}
use Rattle.table_classes.specs.Rows.{IsTable}

-- each label of a table is a row
pub each_row : (a : Expression) → IsTable a → (P : PureLabel → Type 0) → ((r : ℕ) → IsLabel a (row_label r) → P (row_label r))
    → (l : PureLabel) → IsLabel a l → P l
each_row (table t) h P rows (row_label r) i = rows r i
each_row (table t) h P rows _ i = absurd i
each_row _ h P rows l i = absurd h

-- a row's number is no number of a text
pub row_bound : (a : Expression) (l : PureLabel) (n : ℕ) → IsTable a → IsLabel a l → LabelAtMost n l
row_bound (table t) (row_label r) n h i = tt
row_bound (table t) _ n h i = absurd i
row_bound _ l n h i = absurd h
