use Rattle.std.proofs.Common.{◌≡◌, map}
use Rattle.std.specs.List.{range_with_len}
use Rattle.distance_node.specs.Node.{new_node}
use Rattle.distance_node.specs.Nodes.{state_of}
use Rattle.distance_node.proofs.fresh.new_nodes.Given as goal

-- the nodes so far are new
abbrev pub invariant-loop-number : goal.invariant-loop-number
invariant-loop-number g l = record {
  nodes : map state_of l.nodes.items ≡ map (new_node l.fn.net) (range_with_len 0 l.number);
}
