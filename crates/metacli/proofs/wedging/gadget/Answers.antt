use Rattle.std.proofs.Common.{refl}
use Rattle.property_infer.specs.Views.{pure_verdict}
use Rattle.metacli.proofs.Wedges.{shows_wedge}
use Rattle.metacli.proofs.wedging.gadget.Goals as goal

pub returns-in-Ok-clause-wedged : goal.returns-in-Ok-clause-wedged
returns-in-Ok-clause-wedged c =
    let shows = shows_wedge c.args.alg (pure_verdict c.in-Ok.verdict) c.gadget_texts_are_networks.ensures.wedge c.tree.ensures.formed c.in-Ok.ensures.wedge in
    (refl, c.in-Ok.ensures.exact, c.in-Ok.ensures.wedge, shows)
