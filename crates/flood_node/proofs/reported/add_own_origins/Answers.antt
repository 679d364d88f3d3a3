use Rattle.std.proofs.Common.{◌≡◌, length, slice_get, Some, ap, ◌∙◌, arith}
use Rattle.alg_model.specs.Views.{pure_value}
use Rattle.flood_node.specs.Cards.{PureCard, card_of}
use Rattle.flood_node.specs.Views.{pure_card_origin}
use Rattle.std.proofs.Common.{map}
use Rattle.net_graph.specs.Nets.{PureNet, has_origin}
use Rattle.flood_node.proofs.OwnCards.{seen_at}
use Rattle.flood_node.proofs.ReportedOrigins.{origin_holds, origin_absent, own_draft_next}
use Rattle.flood_node.proofs.reported.add_own_origins.Goals as goal

pub add_origin_of-requires-clause-dest : goal.add_origin_of-requires-clause-dest
add_origin_of-requires-clause-dest c =
    let net = c.args.net.now in
    let i = c.args.card.now.node.0 in
    let k = c.loop-origin.origin-index in
    let o = pure_card_origin c.origin-item.result in
    let at : slice_get (card_of net i).origins k ≡ Some o =
    seen_at pure_card_origin c.as_slice-origin-items.result.now (card_of net i).origins k c.origin-item.result (ap (map pure_card_origin) c.as_slice-origin-items.ensures ∙ ap (λ (x : PureCard). x.origins) c.requires.card) c.loop-origin-test.true c.origin-item.is in
    let holds = (origin_holds net i c.requires.net (length net.dests) k o at).0 in
    let dests = ap (λ (n : PureNet). length n.dests) c.loop-origin.invariant ∙ ap (λ (n : PureNet). length n.dests) c.requires.draft in
    omega (arith, holds, dests)

pub add_origin_of-requires-clause-absent : goal.add_origin_of-requires-clause-absent
add_origin_of-requires-clause-absent c =
    let net = c.args.net.now in
    let i = c.args.card.now.node.0 in
    let k = c.loop-origin.origin-index in
    let o = pure_card_origin c.origin-item.result in
    let at : slice_get (card_of net i).origins k ≡ Some o =
    seen_at pure_card_origin c.as_slice-origin-items.result.now (card_of net i).origins k c.origin-item.result (ap (map pure_card_origin) c.as_slice-origin-items.ensures ∙ ap (λ (x : PureCard). x.origins) c.requires.card) c.loop-origin-test.true c.origin-item.is in
    ap (λ (d : PureNet). has_origin d o.dest i) c.loop-origin.invariant ∙ origin_absent net i (length net.dests) k o c.args.draft.now.origins at (c.requires.none o.dest)

pub add_origin_of-requires-clause-value : goal.add_origin_of-requires-clause-value
add_origin_of-requires-clause-value c =
    let net = c.args.net.now in
    let i = c.args.card.now.node.0 in
    let k = c.loop-origin.origin-index in
    let o = pure_card_origin c.origin-item.result in
    let at : slice_get (card_of net i).origins k ≡ Some o =
    seen_at pure_card_origin c.as_slice-origin-items.result.now (card_of net i).origins k c.origin-item.result (ap (map pure_card_origin) c.as_slice-origin-items.ensures ∙ ap (λ (x : PureCard). x.origins) c.requires.card) c.loop-origin-test.true c.origin-item.is in
    let alg = ap (λ (n : PureNet). n.alg) c.loop-origin.invariant ∙ ap (λ (n : PureNet). n.alg) c.requires.draft in
    rw (alg, c.in_ok-value.ensures) ((origin_holds net i c.requires.net (length net.dests) k o at).1)

pub add_origin_of-requires-clause-small : goal.add_origin_of-requires-clause-small
add_origin_of-requires-clause-small c =
    let net = c.args.net.now in
    let i = c.args.card.now.node.0 in
    let k = c.loop-origin.origin-index in
    let o = pure_card_origin c.origin-item.result in
    let at : slice_get (card_of net i).origins k ≡ Some o =
    seen_at pure_card_origin c.as_slice-origin-items.result.now (card_of net i).origins k c.origin-item.result (ap (map pure_card_origin) c.as_slice-origin-items.ensures ∙ ap (λ (x : PureCard). x.origins) c.requires.card) c.loop-origin-test.true c.origin-item.is in
    let alg = ap (λ (n : PureNet). n.alg) c.loop-origin.invariant ∙ ap (λ (n : PureNet). n.alg) c.requires.draft in
    rw (alg, c.in_ok-value.ensures) ((origin_holds net i c.requires.net (length net.dests) k o at).2)

pub loop-origin-preserved : goal.loop-origin-preserved
loop-origin-preserved c =
    let net = c.args.net.now in
    let i = c.args.card.now.node.0 in
    let k = c.loop-origin.origin-index in
    let o = pure_card_origin c.origin-item.result in
    let at : slice_get (card_of net i).origins k ≡ Some o =
    seen_at pure_card_origin c.as_slice-origin-items.result.now (card_of net i).origins k c.origin-item.result (ap (map pure_card_origin) c.as_slice-origin-items.ensures ∙ ap (λ (x : PureCard). x.origins) c.requires.card) c.loop-origin-test.true c.origin-item.is in
    own_draft_next c.args.draft.now c.loop-origin.draft c.add_origin_of.new.self i (card_of net i).origins k o (pure_value c.in_ok-value.value) c.loop-origin.invariant at c.in_ok-value.ensures c.in_ok-add_origin_of.ensures.ok
