use Rattle.alg_model.specs.Views.{pure_carrier}
use Rattle.alg_classes.specs.Classes.{pure_examples}
use Rattle.scoped_classes.specs.ScopedLaws.{made_inner}
use Rattle.scoped_classes.proofs.class.inner_class.Goals as goal

pub returns-clause-class : goal.returns-clause-class
returns-clause-class c = λ a b e formed same is.
    made_inner a b e (pure_carrier c.args.first.now) c.args.y.now _ (pure_examples c.in_ok-kept.kept)
    formed same is c.in_ok-kept.ensures.settled c.in_ok-kept.ensures.bound
    c.inner_profile.ensures.rule c.in_ok-inner_label.ensures c.in_ok-pair_examples.ensures
