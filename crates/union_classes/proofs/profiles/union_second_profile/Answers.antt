use Rattle.union_classes.specs.LabelLaws.{second_profile_of}
use Rattle.union_classes.proofs.profiles.union_second_profile.Goals as goal

pub returns-clause-exact : goal.returns-clause-exact
returns-clause-exact c = λ a b l formed is_label is. second_profile_of a b l c.args.x.now formed is_label is
