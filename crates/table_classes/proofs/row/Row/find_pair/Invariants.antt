use Rattle.std.proofs.Common.{ℕ, ◌<◌, length}
use Rattle.table_classes.specs.Rows.{pair_fact}
use Rattle.table_classes.specs.Found.{FailsBetween}
use Rattle.table_classes.proofs.row.Row.find_pair.Given as goal

abbrev pub invariant-loop-u : goal.invariant-loop-u
invariant-loop-u l = (k : ℕ) → k < l.u → (v : ℕ) → v < length l.self.names → ¬ FailsBetween l.self (pair_fact l.fact) k v
