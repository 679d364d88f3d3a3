use Rattle.std.proofs.Common.{◌≡◌, Some}
use Rattle.net_graph.specs.Tables.{carrier, route_at}
use Rattle.net_graph.specs.Views.{pure_route, rows_of}
use Rattle.net_graph.specs.declared.route.Route.{Route}
use Rattle.stable_check.specs.Checks.{own_offer, Outdoes}
use Rattle.stable_check.specs.Offering.{own_offer_in, rows_in}
use Rattle.report_check.specs.Judged.{IsBetterOffer}
use Rattle.report_check.proofs.RowSearch.{found_as, own_better}
use Rattle.report_check.proofs.rows.offer_of_origin.Goals as goal

pub weighed-found-requires-clause-offer : goal.weighed-found-requires-clause-offer
weighed-found-requires-clause-offer c = rw (c.in_ok-offer.ensures c.args.net.now c.args.table.now.dest.0 c.requires.own) (own_offer_in c.args.net.now c.requires.net c.args.table.now.dest.0 c.args.node.0)

pub weighed-found-requires-clause-row : goal.weighed-found-requires-clause-row
weighed-found-requires-clause-row c = rw c.route_at-row.ensures (rows_in c.args.net.now c.args.table.now.dest.0 (rows_of c.args.table.now) c.requires.table c.args.node.0)

pub returns-clause-better : goal.returns-clause-better
returns-clause-better c = λ wanted.
    let net = c.args.net.now in
    let dest = c.args.table.now.dest.0 in
    let rows = rows_of c.args.table.now in
    let i = c.args.node.0 in
    let better = rw (c.in_ok-offer.ensures net dest c.requires.own, c.route_at-row.ensures) at c.weighed-found.ensures.better in
    found_as c.weighed-found.result.better (¬ Outdoes (carrier net) (own_offer net dest i) (route_at rows i)) (¬ Outdoes (carrier net) (own_offer net dest i) (route_at rows i))
    (λ (s : Route). (own_offer net dest i ≡ Some (pure_route s)) × Outdoes (carrier net) (Some (pure_route s)) (route_at rows i)) (λ (s : Route). IsBetterOffer net dest rows i (pure_route s))
    better (λ h. h) (λ s x. own_better net dest i rows (pure_route s) x.0 x.1)
