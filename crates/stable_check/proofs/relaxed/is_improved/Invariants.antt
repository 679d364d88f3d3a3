use Rattle.net_graph.specs.Views.{rows_of}
use Rattle.stable_check.specs.Checks.{ImprovedBy}
use Rattle.stable_check.specs.ArcSearch.{NoneBefore}
use Rattle.stable_check.proofs.relaxed.is_improved.Given as goal

-- no arc so far
abbrev pub invariant-loop-place : goal.invariant-loop-place
invariant-loop-place l = NoneBefore l.net l.fn.node.0 (ImprovedBy l.net (rows_of l.table) l.fn.node.0) l.place
