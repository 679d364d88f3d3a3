use Rattle.std.proofs.Common.{sym, subst, ◌∙◌}
use Rattle.alg_model.specs.Views.{pure_carrier, pure_value}
use Rattle.alg_classes.specs.Flat.{IsWorse}
use Rattle.alg_classes.specs.FlatLaws.{worse_than_is_worse, none_is_worse}
use Rattle.alg_classes.proofs.worse.worse_than.Goals as goal

pub returns-in_ok-worse-clause-worse : goal.returns-in_ok-worse-clause-worse
returns-in_ok-worse-clause-worse c i =
    subst (IsWorse (pure_carrier c.args.carrier.now) (pure_value c.args.value.now)) (sym c.in_ok-worse.ensures.value)
    (worse_than_is_worse (pure_carrier c.args.carrier.now) (pure_value c.args.value.now) c.requires.carrier i
    (sym c.has_worse.ensures ∙ c.if-has_worse.true))

pub returns-else-has_worse-clause-worse : goal.returns-else-has_worse-clause-worse
returns-else-has_worse-clause-worse c i w =
    none_is_worse (pure_carrier c.args.carrier.now) (pure_value c.args.value.now) w.0 c.requires.carrier i w.1.0
    (sym c.has_worse.ensures ∙ c.if-has_worse.false) w.1.1
