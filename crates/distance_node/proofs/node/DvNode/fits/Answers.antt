use Rattle.distance_node.proofs.Near.{signs_in}
use Rattle.distance_node.proofs.Taking.{fits_is}
use Rattle.distance_node.proofs.node.DvNode.fits.Goals as goal

pub returns : goal.returns
returns g c =
    let A = g.A.Algebra in
    let inside = c.self.inside in
    let s = inside.algebra.now in
    let net = inside.net.now in
    let sig_in = signs_in (A.is_sig s) (A.sig_value s) net c.self.invariant.1.algebra (g.met.A.Algebra.sig_in s) in
    rw (← c.self.view_is) (fits_is (A.is_sig s) (A.sig_value s) net sig_in c.args.message.now c.reported-reported.result.now c.dest.result.0 c.dest_count.result c.reported-reported.ensures.reported c.reported-reported.ensures.value c.dest.ensures c.dest_count.ensures.count)
