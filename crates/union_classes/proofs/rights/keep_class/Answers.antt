use Rattle.std.proofs.Common.{refl}
use Rattle.alg_model.specs.Views.{pure_carrier}
use Rattle.union_classes.proofs.ConstLaws.{keep_class_of}
use Rattle.union_classes.proofs.rights.keep_class.Goals as goal

pub returns-clause-class : goal.returns-clause-class
returns-clause-class c = λ a e same. keep_class_of a e (pure_carrier c.args.carrier.now) _ same refl
    c.keep_profile.ensures.rule c.in_ok-kept_examples.ensures.settled c.in_ok-kept_examples.ensures.bound
