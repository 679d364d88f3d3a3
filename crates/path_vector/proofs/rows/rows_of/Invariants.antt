use Rattle.std.proofs.Common.{◌≡◌, map}
use Rattle.std.specs.List.{range_with_len}
use Rattle.net_graph.specs.Views.{pure_row}
use Rattle.path_vector.specs.Node.{rows_for}
use Rattle.path_vector.specs.Nodes.{state_of}
use Rattle.path_vector.proofs.rows.rows_of.Given as goal

-- the rows of the destinations so far
abbrev pub invariant-loop-dest : goal.invariant-loop-dest
invariant-loop-dest g l = record {
  rows : map pure_row l.rows.items ≡ rows_for (map state_of l.fn.nodes) (range_with_len 0 l.dest);
}
