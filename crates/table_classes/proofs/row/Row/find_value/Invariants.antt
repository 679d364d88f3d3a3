use Rattle.std.proofs.Common.{ℕ, ◌<◌}
use Rattle.table_classes.specs.Rows.{value_fact}
use Rattle.table_classes.specs.Found.{FailsAtPlace}
use Rattle.table_classes.proofs.row.Row.find_value.Given as goal

abbrev pub invariant-loop-u : goal.invariant-loop-u
invariant-loop-u l = (k : ℕ) → k < l.u → ¬ FailsAtPlace l.self (value_fact l.fact) k
