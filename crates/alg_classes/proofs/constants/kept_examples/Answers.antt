use Rattle.alg_model.specs.Views.{pure_carrier}
use Rattle.alg_classes.proofs.MadeExamples.{kept_settles, kept_small}
use Rattle.alg_classes.proofs.constants.kept_examples.Goals as goal

pub returns-clause-settled : goal.returns-clause-settled
returns-clause-settled c =
    kept_settles (pure_carrier c.args.carrier.now)
    c.in_ok-best.field-0 c.in_ok-best-2.field-0 c.in_ok-apart.field-0 c.in_ok-apart-2.field-0 c.requires
    c.in_ok-best.ensures.value c.in_ok-best-2.ensures.value c.in_ok-apart.ensures.values c.in_ok-apart-2.ensures.values

pub returns-clause-bound : goal.returns-clause-bound
returns-clause-bound c =
    kept_small c.in_ok-best.field-0 c.in_ok-best-2.field-0 c.in_ok-apart.field-0 c.in_ok-apart-2.field-0
    c.in_ok-best.ensures.small c.in_ok-best-2.ensures.small c.in_ok-apart.ensures.small c.in_ok-apart-2.ensures.small
