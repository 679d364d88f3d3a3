use Rattle.std.proofs.lemmas.Result.{IfOk-weaker}
use Rattle.metacli.proofs.NextHops.{hops_found}
use Rattle.metacli.proofs.hopping.best_hops_on.Goals as goal

pub returns : goal.returns
returns g c =
    let net = c.args.net.now in
    let is_net = c.node_count.ensures.net in
    IfOk-weaker c.hops_of.result _ _
    (λ many e. hops_found net is_net c.requires (λ dest t best. c.best_first_is_optimal.ensures net dest t is_net c.requires.0 c.requires.1.0 best) c.in_ok-tables.tables c.in_ok-tables.ensures many e)
    c.hops_of.ensures
