use Rattle.alg_classes.specs.Constants.{kept_by_test}
use Rattle.alg_classes.proofs.constants.kept_profile.Goals as goal

pub returns-clause-exact : goal.returns-clause-exact
returns-clause-exact g c = kept_by_test (g.C.Shaped.carrier c.args.shaped.now) c.is_flat-flat.result c.is_flat-flat.ensures
