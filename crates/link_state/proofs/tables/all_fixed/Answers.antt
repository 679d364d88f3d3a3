use Rattle.std.proofs.Common.{◌<◌, arith}
use Rattle.link_state.proofs.Placed.{joined_counted, joined_fixed}
use Rattle.link_state.proofs.tables.all_fixed.Goals as goal

pub returns-clause-fixed : goal.returns-clause-fixed
returns-clause-fixed g c =
    let some : 0 < c.clamp-workers.result = grind (arith, c.clamp-workers.ensures) in
    joined_fixed (g.A.Algebra.sig_value c.args.algebra.now) (g.A.Algebra.is_sig c.args.algebra.now) c.args.net.now c.clamp-workers.result
    c.in_ok-found.found.items c.in_ok-shares.shares c.joined.result some (omega (arith, c.in_ok-found.ensures.count)) c.in_ok-found.ensures.fixed c.in_ok-shares.ensures c.joined.ensures

pub returns-clause-count : goal.returns-clause-count
returns-clause-count g c =
    let some : 0 < c.clamp-workers.result = grind (arith, c.clamp-workers.ensures) in
    joined_counted (g.A.Algebra.sig_value c.args.algebra.now) (g.A.Algebra.is_sig c.args.algebra.now) c.args.net.now c.clamp-workers.result c.joined.result
    (joined_fixed (g.A.Algebra.sig_value c.args.algebra.now) (g.A.Algebra.is_sig c.args.algebra.now) c.args.net.now c.clamp-workers.result
    c.in_ok-found.found.items c.in_ok-shares.shares c.joined.result some (omega (arith, c.in_ok-found.ensures.count)) c.in_ok-found.ensures.fixed c.in_ok-shares.ensures c.joined.ensures)
