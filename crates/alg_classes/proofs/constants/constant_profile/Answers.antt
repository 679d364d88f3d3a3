use Rattle.alg_model.specs.Views.{pure_value}
use Rattle.alg_classes.specs.Constants.{constant_by_tests}
use Rattle.alg_classes.proofs.constants.constant_profile.Goals as goal

pub returns-clause-exact : goal.returns-clause-exact
returns-clause-exact g c =
    constant_by_tests (g.C.Shaped.carrier c.args.shaped.now) (pure_value c.args.value.now) c.is_flat-flat.result c.has_worse.result
    c.is_flat-flat.ensures c.has_worse.ensures
