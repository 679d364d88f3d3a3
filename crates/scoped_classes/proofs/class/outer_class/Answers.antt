use Rattle.alg_model.specs.Views.{pure_carrier, pure_value}
use Rattle.alg_classes.specs.Classes.{pure_examples}
use Rattle.scoped_classes.specs.ScopedLaws.{made_outer}
use Rattle.scoped_classes.proofs.class.outer_class.Goals as goal

pub returns-clause-class : goal.returns-clause-class
returns-clause-class c = λ a b e formed same small is.
    made_outer a b e (pure_carrier c.args.second.now) (pure_value c.args.value.now) c.args.x.now _ (pure_examples c.in_ok-set.set)
    formed same c.requires.value small is c.in_ok-set.ensures.settled c.in_ok-set.ensures.bound
    c.outer_profile.ensures.rule c.in_ok-outer_label.ensures c.in_ok-pair_examples.ensures
