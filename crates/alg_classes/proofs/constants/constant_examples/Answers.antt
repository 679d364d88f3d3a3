use Rattle.std.proofs.Common.{sym, subst}
use Rattle.alg_model.specs.Bounds.{AtMost}
use Rattle.alg_model.specs.Views.{pure_carrier, pure_value}
use Rattle.alg_model.specs.declared.edition.TheConstants.{MAX_LABEL_NUMBER}
use Rattle.alg_classes.proofs.MadeExamples.{constant_settles, constant_small}
use Rattle.alg_classes.proofs.constants.constant_examples.Goals as goal

pub returns-clause-settled : goal.returns-clause-settled
returns-clause-settled c =
    constant_settles (pure_carrier c.args.carrier.now) (pure_value c.args.value.now)
    c.in_ok-copy.field-0 c.in_ok-worse_than.field-0 c.in_ok-copy-2.field-0 c.in_ok-apart.field-0 c.in_ok-apart-2.field-0
    c.requires.carrier c.requires.value
    c.in_ok-copy.ensures c.in_ok-worse_than.ensures.value c.in_ok-copy-2.ensures c.in_ok-apart.ensures.values c.in_ok-apart-2.ensures.values

pub returns-clause-bound : goal.returns-clause-bound
returns-clause-bound c =
    constant_small
    c.in_ok-copy.field-0 c.in_ok-worse_than.field-0 c.in_ok-copy-2.field-0 c.in_ok-apart.field-0 c.in_ok-apart-2.field-0
    (subst (AtMost MAX_LABEL_NUMBER) (sym c.in_ok-copy.ensures) c.requires.small)
    c.in_ok-worse_than.ensures.small
    (subst (AtMost MAX_LABEL_NUMBER) (sym c.in_ok-copy-2.ensures) c.requires.small)
    c.in_ok-apart.ensures.small c.in_ok-apart-2.ensures.small
