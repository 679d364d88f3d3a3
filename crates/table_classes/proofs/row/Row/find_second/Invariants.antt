use Rattle.std.proofs.Common.{ℕ, ◌<◌}
use Rattle.table_classes.specs.Rows.{pair_fact}
use Rattle.table_classes.specs.Found.{FailsBetween}
use Rattle.table_classes.proofs.row.Row.find_second.Given as goal

abbrev pub invariant-loop-v : goal.invariant-loop-v
invariant-loop-v l = (k : ℕ) → k < l.v → ¬ FailsBetween l.self (pair_fact l.fact) l.fn.u k
