use Rattle.std.proofs.Common.{ap, map, ◌∙◌}
use Rattle.std.specs.Arc.{arc_value}
use Rattle.flood_node.specs.Node.{FloodState}
use Rattle.flood_node.specs.Views.{pure_card}
use Rattle.flood_node.proofs.node.FloodNode.cards.Goals as goal

pub returns : goal.returns
returns c = ap (map (λ x. pure_card (arc_value x))) c.deref.ensures.value ∙ ap (λ (s : FloodState). s.cards) c.self.view_is
