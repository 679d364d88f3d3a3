use Rattle.alg_model.specs.Carriers.{carrier_of}
use Rattle.distance_node.proofs.SameValues.{are_apart, unequal}
use Rattle.distance_node.proofs.telling.are_same.Goals as goal

pub returns-in-Less : goal.returns-in-Less
returns-in-Less g c =
    let A = g.A.Algebra in
    let s = c.args.algebra.now in
    are_apart (carrier_of (A.expression s)) (A.sig_value s c.args.first.now) (A.sig_value s c.args.second.now) (g.met.A.Algebra.sig_in s c.args.first.now c.requires.first) c.order.result c.order.ensures (unequal c.order.result c.in-Less.is)
