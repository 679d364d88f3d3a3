use Rattle.net_graph.specs.Tables.{route_at}
use Rattle.net_graph.specs.Views.{rows_of}
use Rattle.stable_check.specs.Checks.{OutdoneBy}
use Rattle.stable_check.specs.ArcSearch.{NoneBefore}
use Rattle.stable_check.proofs.stable.is_outdone_by_arc.Given as goal

-- no arc so far
abbrev pub invariant-loop-place : goal.invariant-loop-place
invariant-loop-place l = NoneBefore l.net l.fn.node.0 (OutdoneBy l.net (route_at (rows_of l.table)) l.fn.node.0) l.place
