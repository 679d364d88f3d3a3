use Rattle.std.proofs.Common.{◌≡◌, Some, None, length, refl, sym, ap, ◌∙◌, arith}
use Rattle.std.specs.Prelude.{is_some, option_and_then}
use Rattle.std.specs.List.{list_any}
use Rattle.std.proofs.lemmas.Option.{slice_get_read}
use Rattle.net_graph.specs.Nets.{PureNet, has_origin, is_origin_at}
use Rattle.flood_node.specs.Cards.{PureCard, card_of}
use Rattle.flood_node.specs.Rows.{is_placed, placed_at, reported_origins}
use Rattle.flood_node.proofs.ReportedOrigins.{none_yet, node_draft_next, node_draft_same}
use Rattle.flood_node.proofs.reported.add_origins.Goals as goal
use Rattle.flood_node.proofs.reported.add_origins.Goals.{in-Some+in_ok-add_own_origins, in_default}

pub add_own_origins-requires-clause-node : goal.add_own_origins-requires-clause-node
add_own_origins-requires-clause-node c =
    let cards = c.args.cards.now in
    let k = c.loop-card.card-index in
    let placed : placed_at cards k ≡ Some c.in-Some.card = ap (option_and_then (λ o. o)) (slice_get_read cards (length cards) k c.card-item.result refl c.loop-card-test.true c.card-item.is) ∙ c.in-Some.is in
    let number = ap (λ (x : PureCard). x.node) (c.requires.cards k c.in-Some.card placed) in
    let count = c.requires.count in
    let within = c.loop-card-test.true in
    omega (arith, number, count, within)

pub add_own_origins-requires-clause-card : goal.add_own_origins-requires-clause-card
add_own_origins-requires-clause-card c =
    let cards = c.args.cards.now in
    let k = c.loop-card.card-index in
    let placed : placed_at cards k ≡ Some c.in-Some.card = ap (option_and_then (λ o. o)) (slice_get_read cards (length cards) k c.card-item.result refl c.loop-card-test.true c.card-item.is) ∙ c.in-Some.is in
    let is = c.requires.cards k c.in-Some.card placed in
    is ∙ ap (card_of c.args.net.now) (sym (ap (λ (x : PureCard). x.node) is))

pub add_own_origins-requires-clause-none : goal.add_own_origins-requires-clause-none
add_own_origins-requires-clause-none c = λ dest.
    let cards = c.args.cards.now in
    let k = c.loop-card.card-index in
    let placed : placed_at cards k ≡ Some c.in-Some.card = ap (option_and_then (λ o. o)) (slice_get_read cards (length cards) k c.card-item.result refl c.loop-card-test.true c.card-item.is) ∙ c.in-Some.is in
    let number = ap (λ (x : PureCard). x.node) (c.requires.cards k c.in-Some.card placed) in
    ap (λ (d : PureNet). has_origin d dest c.in-Some.card.now.node.0) c.loop-card.invariant
    ∙ (ap (λ z. list_any (is_origin_at dest z) (reported_origins c.args.net.now (is_placed cards) k)) number ∙ none_yet c.args.net.now (is_placed cards) k dest)

pub loop-card-preserved : goal.loop-card-preserved
loop-card-preserved c =
    let cards = c.args.cards.now in
    let k = c.loop-card.card-index in
    let slot = ap (option_and_then (λ o. o)) (slice_get_read cards (length cards) k c.card-item.result refl c.loop-card-test.true c.card-item.is) in
    elim c.match-card.branch [
      | in-Some+in_ok-add_own_origins w ↦
          let placed : placed_at cards k ≡ Some w.in-Some.card = slot ∙ w.in-Some.is in
          let number = ap (λ (x : PureCard). x.node) (c.requires.cards k w.in-Some.card placed) in
          w.draft-is ∙ node_draft_next c.args.net.now (is_placed cards) c.args.draft.now c.loop-card.draft w.add_own_origins.new.draft k w.in-Some.card.now.node.0 c.loop-card.invariant number (ap is_some placed) w.in_ok-add_own_origins.ensures
      | in_default w ↦
          let nothing : placed_at cards k ≡ None = slot ∙ w.in_default.is in
          node_draft_same c.args.net.now (is_placed cards) c.args.draft.now c.loop-card.draft c.match-card.draft k c.loop-card.invariant (ap is_some nothing) w.draft-is
    ]
