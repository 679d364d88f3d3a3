use Rattle.alg_model.specs.Views.{pure_carrier, pure_value}
use Rattle.union_classes.proofs.ConstLaws.{const_class_of}
use Rattle.union_classes.proofs.lefts.const_class.Goals as goal

pub returns-clause-class : goal.returns-clause-class
returns-clause-class c = λ a e same small. const_class_of a e (pure_carrier c.args.carrier.now) (pure_value c.args.value.now) _ same c.requires.value small
    c.in_ok-const_label.ensures c.const_profile.ensures.rule c.in_ok-constant_examples.ensures.settled c.in_ok-constant_examples.ensures.bound
