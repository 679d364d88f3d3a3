use Rattle.std.proofs.Common.{◌≡◌, map}
use Rattle.flood_node.specs.Cards.{card_origins}
use Rattle.flood_node.specs.Views.{pure_card_origin}
use Rattle.flood_node.proofs.own_card.card_origins.Given as goal

-- the origins of the destinations so far
abbrev pub invariant-loop-dest : goal.invariant-loop-dest
invariant-loop-dest l = map pure_card_origin l.origins.items ≡ card_origins l.fn.net l.fn.node.0 l.dest
