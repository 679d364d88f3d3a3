use Rattle.net_graph.specs.Tables.{route_at}
use Rattle.net_graph.specs.Views.{rows_of}
use Rattle.stable_check.specs.Checks.{MadeBy}
use Rattle.stable_check.specs.ArcSearch.{NoneBefore}
use Rattle.stable_check.proofs.stable.is_made_by_arc.Given as goal

-- no arc so far
abbrev pub invariant-loop-place : goal.invariant-loop-place
invariant-loop-place l = NoneBefore l.net l.fn.node.0 (MadeBy l.net (route_at (rows_of l.table)) l.fn.node.0) l.place
