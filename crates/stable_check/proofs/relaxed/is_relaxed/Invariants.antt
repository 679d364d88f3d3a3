use Rattle.std.proofs.Common.{ℕ, ◌<◌}
use Rattle.net_graph.specs.Views.{rows_of}
use Rattle.stable_check.specs.Checks.{IsRelaxedAt}
use Rattle.stable_check.proofs.relaxed.is_relaxed.Given as goal

-- the nodes so far have what rows of a relaxed table have
abbrev pub invariant-loop-node : goal.invariant-loop-node
invariant-loop-node l = (k : ℕ) → k < l.node → IsRelaxedAt l.net l.table.dest.0 (rows_of l.table) k
