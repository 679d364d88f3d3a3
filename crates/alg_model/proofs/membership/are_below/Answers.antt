use Rattle.alg_model.proofs.Symbols.{below_by_test}
use Rattle.alg_model.proofs.membership.are_below.Goals as goal

pub returns : goal.returns
returns c = rw c.pass_below.ensures (below_by_test c.args.bound c.args.ns.now)
