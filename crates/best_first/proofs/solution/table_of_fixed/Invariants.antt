use Rattle.std.proofs.Common.{◌≡◌, map, take}
use Rattle.net_graph.specs.Views.{pure_row}
use Rattle.best_first.specs.Found.{rows_from}
use Rattle.best_first.specs.Fixed.{fixed_routes}
use Rattle.best_first.proofs.solution.table_of_fixed.Given as goal

-- the rows of the nodes so far
abbrev pub invariant-loop-node : goal.invariant-loop-node
invariant-loop-node g l = record {
  rows : map pure_row l.table.items ≡ rows_from l.dest.0 0 (fixed_routes (g.A.Algebra.sig_value l.algebra) l.fn.fixed.paths (take l.node l.fn.fixed.rows));
}
