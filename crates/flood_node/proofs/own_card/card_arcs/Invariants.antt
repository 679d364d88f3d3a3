use Rattle.std.proofs.Common.{◌≡◌, map, take}
use Rattle.flood_node.specs.Cards.{card_arc}
use Rattle.flood_node.specs.Views.{pure_card_arc}
use Rattle.flood_node.proofs.own_card.card_arcs.Given as goal

-- the arcs so far
abbrev pub invariant-loop-place : goal.invariant-loop-place
invariant-loop-place l = map pure_card_arc l.arcs.items ≡ map card_arc (take l.place l.out)
