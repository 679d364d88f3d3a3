use Rattle.std.proofs.Common.{refl, ◌∙◌}
use Rattle.net_graph.specs.Tables.{route_at}
use Rattle.net_graph.specs.Views.{pure_route, rows_of}
use Rattle.stable_check.specs.WalkWeights.{lent, if_ok}
use Rattle.stable_check.specs.Offering.{rows_in, own_offer_in, outdone_own, outdone_by}
use Rattle.stable_check.proofs.stable.is_outdone.Goals as goal

pub outdoes-requires-clause-row : goal.outdoes-requires-clause-row
outdoes-requires-clause-row c = rw c.route_at.ensures (rows_in c.args.net.now c.args.table.now.dest.0 (rows_of c.args.table.now) c.requires.table c.args.node.0)

pub outdoes-requires-clause-offer : goal.outdoes-requires-clause-offer
outdoes-requires-clause-offer c =
    let offer = lent pure_route c.as_ref.result c.in_ok-offer.offer c.as_ref.ensures.value ∙ c.in_ok-offer.ensures c.args.net.now c.args.table.now.dest.0 c.requires.own in
    rw offer (own_offer_in c.args.net.now c.requires.net c.args.table.now.dest.0 c.args.node.0)

pub returns-then-outdoes : goal.returns-then-outdoes
returns-then-outdoes c =
    let offer = lent pure_route c.as_ref.result c.in_ok-offer.offer c.as_ref.ensures.value ∙ c.in_ok-offer.ensures c.args.net.now c.args.table.now.dest.0 c.requires.own in
    let decides = rw (offer, c.route_at.ensures) at c.outdoes.ensures in
    (λ e. outdone_own c.args.net.now c.args.table.now.dest.0 (route_at (rows_of c.args.table.now)) c.args.node.0 (decides.0 c.if-outdoes.true), λ h. refl)

pub returns : goal.returns
returns c =
    let offer = lent pure_route c.as_ref.result c.in_ok-offer.offer c.as_ref.ensures.value ∙ c.in_ok-offer.ensures c.args.net.now c.args.table.now.dest.0 c.requires.own in
    let decides = rw (offer, c.route_at.ensures) at c.outdoes.ensures in
    if_ok c.is_outdone_by_arc.result c.is_outdone_by_arc.ensures
    (λ b. outdone_by c.args.net.now c.args.table.now.dest.0 (route_at (rows_of c.args.table.now)) c.args.node.0 b (λ h. let e = decides.1 h in let f = c.if-outdoes.false in absurd (cc)))
