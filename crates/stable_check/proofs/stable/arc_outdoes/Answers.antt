use Rattle.std.proofs.Common.{◌∙◌}
use Rattle.net_graph.specs.Views.{pure_route, rows_of}
use Rattle.stable_check.specs.WalkWeights.{lent}
use Rattle.stable_check.specs.Offering.{rows_in, offer_in}
use Rattle.stable_check.proofs.stable.arc_outdoes.Goals as goal

pub outdoes-requires-clause-row : goal.outdoes-requires-clause-row
outdoes-requires-clause-row c = rw c.route_at.ensures (rows_in c.args.net.now c.args.table.now.dest.0 (rows_of c.args.table.now) c.requires.table c.args.arc.now.tail.0)

pub outdoes-requires-clause-offer : goal.outdoes-requires-clause-offer
outdoes-requires-clause-offer c =
    let offer = lent pure_route c.as_ref.result c.in_ok-offer.offer c.as_ref.ensures.value ∙ c.in_ok-offer.ensures in
    rw offer (offer_in c.args.net.now c.requires.net c.args.table.now.dest.0 (rows_of c.args.table.now) c.requires.table c.args.arc.now.tail.0 c.args.arc.now.head.0)
