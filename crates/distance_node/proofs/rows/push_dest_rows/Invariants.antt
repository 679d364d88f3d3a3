use Rattle.std.proofs.Common.{◌≡◌, ◌++◌, map, take}
use Rattle.distance_node.specs.Rows.{pure_hop_row, dest_rows}
use Rattle.distance_node.specs.Nodes.{state_of}
use Rattle.distance_node.proofs.rows.push_dest_rows.Given as goal

-- the rows of the nodes so far
abbrev pub invariant-loop-node : goal.invariant-loop-node
invariant-loop-node g l = record {
  rows : map pure_hop_row l.rows.items ≡ map pure_hop_row l.fn.rows.items ++ dest_rows (map state_of (take l.node-index l.fn.nodes)) l.fn.dest.0;
}
