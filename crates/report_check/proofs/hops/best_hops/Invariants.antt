use Rattle.std.proofs.Common.{◌≡◌, map, take}
use Rattle.net_graph.specs.Views.{rows_of}
use Rattle.report_check.specs.Hops.{hops_from}
use Rattle.report_check.specs.Views.{pure_hops}
use Rattle.report_check.proofs.hops.best_hops.Given as goal

-- the hops of the nodes so far
abbrev pub invariant-loop-node : goal.invariant-loop-node
invariant-loop-node g l = map pure_hops l.many.items ≡ hops_from l.net l.table.dest.0 (rows_of l.table) 0 (take l.node (rows_of l.table))
