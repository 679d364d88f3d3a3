use Rattle.std.proofs.Common.{◌≡◌, map}
use Rattle.std.specs.List.{range_with_len}
use Rattle.distance_node.specs.Rows.{pure_hop_row, rows_for}
use Rattle.distance_node.specs.Nodes.{state_of}
use Rattle.distance_node.proofs.rows.hop_rows.Given as goal

-- the rows of the destinations so far
abbrev pub invariant-loop-dest : goal.invariant-loop-dest
invariant-loop-dest g l = record {
  rows : map pure_hop_row l.rows.items ≡ rows_for (map state_of l.fn.nodes) (range_with_len 0 l.dest);
}
