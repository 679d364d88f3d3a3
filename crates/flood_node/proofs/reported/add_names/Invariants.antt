use Rattle.std.proofs.Common.{◌≡◌, [], take}
use Rattle.flood_node.proofs.reported.add_names.Given as goal

-- the names of the nodes so far
abbrev pub invariant-loop-node : goal.invariant-loop-node
invariant-loop-node l = l.draft ≡ record l.fn.net { nodes = take l.node l.fn.net.nodes; dests = []; arcs = []; origins = [] }

-- and those of the destinations
abbrev pub invariant-loop-dest : goal.invariant-loop-dest
invariant-loop-dest l = l.draft ≡ record l.fn.net { dests = take l.dest l.fn.net.dests; arcs = []; origins = [] }
