use Rattle.std.proofs.Common.{◌≡◌, map, take}
use Rattle.net_graph.specs.Groups.{items_at}
use Rattle.net_graph.specs.Views.{pure_origin}
use Rattle.net_graph.proofs.net.Net.copy_origins.Given as goal

-- the origins so far were copied
abbrev pub invariant-loop-spot : goal.invariant-loop-spot
invariant-loop-spot l = map pure_origin l.origins.items ≡ map pure_origin (take l.spot-index (items_at l.self-inside.homes l.self-inside.origin_spots.items))
