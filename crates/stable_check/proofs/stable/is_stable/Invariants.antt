use Rattle.std.proofs.Common.{ℕ, ◌<◌}
use Rattle.net_graph.specs.Tables.{route_at, IsChoice}
use Rattle.net_graph.specs.Views.{rows_of}
use Rattle.stable_check.proofs.stable.is_stable.Given as goal

-- the rows so far are choices
abbrev pub invariant-loop-node : goal.invariant-loop-node
invariant-loop-node l =
    let reported = route_at (rows_of l.table) in
    (k : ℕ) → k < l.node → IsChoice l.net l.table.dest.0 reported k (reported k)
