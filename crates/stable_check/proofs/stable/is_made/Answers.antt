use Rattle.std.proofs.Common.{◌∙◌}
use Rattle.net_graph.specs.Tables.{route_at}
use Rattle.net_graph.specs.Views.{pure_route, rows_of}
use Rattle.stable_check.specs.WalkWeights.{lent, if_ok}
use Rattle.stable_check.specs.Offering.{made_by}
use Rattle.stable_check.proofs.stable.is_made.Goals as goal

pub returns : goal.returns
returns c =
    let offer = lent pure_route c.as_ref.result c.in_ok-offer.offer c.as_ref.ensures.value ∙ c.in_ok-offer.ensures c.args.net.now c.args.table.now.dest.0 c.requires.own in
    let decides = rw offer at c.makes.ensures in
    if_ok c.is_made_by_arc.result c.is_made_by_arc.ensures
    (λ b. made_by c.args.net.now c.args.table.now.dest.0 (route_at (rows_of c.args.table.now)) c.args.node.0 b (pure_route c.in-Some.route.now) c.in-Some.ensures
    (λ h. let e = decides.1 h in let f = c.if-makes.false in absurd (cc)))
