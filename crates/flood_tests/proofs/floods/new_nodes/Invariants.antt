use Rattle.std.proofs.Common.{◌≡◌, map}
use Rattle.std.specs.List.{range_with_len}
use Rattle.flood_node.specs.Node.{new_node}
use Rattle.flood_tests.proofs.floods.new_nodes.Given as goal

-- the nodes so far are new
abbrev pub invariant-loop-number : goal.invariant-loop-number
invariant-loop-number l = l.nodes.items ≡ map (new_node l.fn.net) (range_with_len 0 l.number)
