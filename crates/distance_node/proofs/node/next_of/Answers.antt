use Rattle.std.proofs.Common.{◌<◌, arith}
use Rattle.distance_node.proofs.Near.{next_near}
use Rattle.distance_node.proofs.node.next_of.Goals as goal

pub returns : goal.returns
returns g c =
    let some : 0 < c.args.offer = (let f = c.if-offer-eq0.false in omega (arith, f)) in
    next_near (g.A.Algebra.stands_for c.args._algebra.now) c.args.net.now c.args.number.0 c.args.speakers.now c.requires.speakers c.args.offer c.index-speakers-offer.result some c.requires.offer
