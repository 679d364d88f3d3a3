use Rattle.std.proofs.Common.{◌≡◌, take}
use Rattle.net_graph.specs.Groups.{items_at}
use Rattle.net_graph.proofs.net.Net.copy_arcs.Given as goal

-- the arcs so far were copied
abbrev pub invariant-loop-spot : goal.invariant-loop-spot
invariant-loop-spot l = l.arcs.items ≡ take l.spot-index (items_at l.self-inside.out l.self-inside.arc_spots.items)
