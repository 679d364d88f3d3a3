use Rattle.std.proofs.Common.{◌≡◌, ◌++◌, map, take}
use Rattle.net_graph.specs.Views.{pure_row}
use Rattle.path_vector.specs.Node.{dest_rows}
use Rattle.path_vector.specs.Nodes.{state_of}
use Rattle.path_vector.proofs.rows.push_dest_rows.Given as goal

-- the rows of the nodes so far
abbrev pub invariant-loop-node : goal.invariant-loop-node
invariant-loop-node g l = record {
  rows : map pure_row l.rows.items ≡ map pure_row l.fn.rows.items ++ dest_rows (map state_of (take l.node-index l.fn.nodes)) l.fn.dest.0;
}
