use Rattle.alg_model.specs.Views.{pure_value}
use Rattle.union_classes.proofs.ConstLaws.{const_profile_of}
use Rattle.union_classes.proofs.lefts.const_profile.Goals as goal

pub returns-clause-exact : goal.returns-clause-exact
returns-clause-exact g c = λ a. const_profile_of a (g.C.Shaped.carrier c.args.shaped.now) (pure_value c.args.value.now) c.constant_profile.result
    c.constant_profile.ensures.profile
