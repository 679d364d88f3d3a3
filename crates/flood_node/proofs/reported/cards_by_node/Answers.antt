use Rattle.std.proofs.Common.{◌≡◌, ◌<◌, Some, length, map, slice_get, refl, sym, ap, ◌∙◌, arith}
use Rattle.std.specs.Arc.{arc_value}
use Rattle.std.specs.Prelude.{option_map}
use Rattle.std.proofs.lemmas.List.{length-set}
use Rattle.std.proofs.lemmas.Option.{slice_get-map, slice_get_read}
use Rattle.net_graph.specs.ArcLaws.{all_at}
use Rattle.flood_node.specs.Cards.{card_of}
use Rattle.flood_node.specs.Reported.{IsTrueCard}
use Rattle.flood_node.specs.Views.{pure_card}
use Rattle.flood_node.specs.declared.card.Card.{Card}
use Rattle.flood_node.proofs.Placed.{placed_next, true_set}
use Rattle.flood_node.proofs.reported.cards_by_node.Goals as goal

pub index_mut-requires : goal.index_mut-requires
index_mut-requires c =
    let cards = c.args.cards.now in
    let k = c.loop-card.card-index in
    let item = c.card-item.result in
    let at : slice_get cards k ≡ Some item = slice_get_read cards (length cards) k item refl c.loop-card-test.true c.card-item.is in
    let is_true : IsTrueCard c.args.net.now (pure_card (arc_value item)) =
    all_at (IsTrueCard c.args.net.now) (map (λ x. pure_card (arc_value x)) cards) k (pure_card (arc_value item)) c.requires (slice_get-map (λ x. pure_card (arc_value x)) cards k ∙ ap (option_map (λ x. pure_card (arc_value x))) at) in
    let node = ap (λ (x : Card). x.node.0) c.deref-card.ensures in
    let within = is_true.node_in in
    let count = c.loop-card.invariant.count in
    let same = c.loop-card.placed.ok.0 in
    omega (arith, within, node, count, same)

pub loop-card-preserved : goal.loop-card-preserved
loop-card-preserved c =
    let net = c.args.net.now in
    let cards = c.args.cards.now in
    let k = c.loop-card.card-index in
    let item = c.card-item.result in
    let card = c.deref-card.result in
    let placed = c.loop-card.placed.items in
    let so = c.loop-card.invariant in
    let at : slice_get cards k ≡ Some item = slice_get_read cards (length cards) k item refl c.loop-card-test.true c.card-item.is in
    let is_true : IsTrueCard net (pure_card (arc_value item)) =
    all_at (IsTrueCard net) (map (λ x. pure_card (arc_value x)) cards) k (pure_card (arc_value item)) c.requires (slice_get-map (λ x. pure_card (arc_value x)) cards k ∙ ap (option_map (λ x. pure_card (arc_value x))) at) in
    let node = ap (λ (x : Card). x.node.0) c.deref-card.ensures in
    let within = is_true.node_in in
    let count = so.count in
    let room : card.now.node.0 < length placed = omega (arith, within, node, count) in
    record {
      count = length-set placed card.now.node.0 (Some card) ∙ count;
      cards = true_set (λ x. pure_card x.now) net placed card.now.node.0 card room so.cards (ap pure_card c.deref-card.ensures ∙ (is_true.card_is ∙ ap (card_of net) (sym node)));
      placed = placed_next (λ x. pure_card (arc_value x)) cards k item placed card.now.node.0 card at room (sym node) so.placed;
    }
