use Rattle.std.proofs.Common.{◌≡◌, ap}
use Rattle.alg_model.specs.Expressions.{PureLabel}
use Rattle.net_graph.specs.Views.{pure_arc}
use Rattle.flood_node.specs.declared.card.CardArc.{CardArc}
use Rattle.flood_node.specs.Cards.{PureCardArc, card_arc}
use Rattle.flood_node.specs.Views.{pure_card_arc}
use Rattle.flood_node.proofs.OwnCards.{arcs_next}
use Rattle.flood_node.proofs.own_card.card_arcs.Goals as goal

pub loop-place-preserved : goal.loop-place-preserved
loop-place-preserved c =
    let arc = pure_arc c.get-arc.result in
    let new : CardArc = record { head = c.get-arc.result.head; label = c.in_ok-label.label } in
    let labelled : PureLabel → PureCardArc = λ l. record { head = arc.head; label = l } in
    let is : pure_card_arc new ≡ card_arc arc = ap labelled c.in_ok-label.ensures in
    rw c.in_ok-push.ensures.items (arcs_next pure_card_arc c.loop-place.arcs.items new c.out_arcs-out.result c.loop-place.place arc c.loop-place.invariant c.get-arc.ensures is)
