use Rattle.union_classes.proofs.ConstLaws.{keep_profile_of}
use Rattle.union_classes.proofs.rights.keep_profile.Goals as goal

pub returns-clause-exact : goal.returns-clause-exact
returns-clause-exact g c = λ a. keep_profile_of a (g.C.Shaped.carrier c.args.shaped.now) c.kept_profile.result c.kept_profile.ensures.profile
