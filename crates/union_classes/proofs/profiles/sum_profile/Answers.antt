use Rattle.std.proofs.Common.{sym, subst}
use Rattle.alg_model.specs.Expressions.{sum, both_label}
use Rattle.alg_classes.specs.Profiles.{ProfileOf}
use Rattle.union_classes.specs.LabelLaws.{sum_profile_of}
use Rattle.union_classes.proofs.profiles.sum_profile.Goals as goal

pub returns-clause-exact : goal.returns-clause-exact
returns-clause-exact c = λ a b x y formed is_x is_y is_l is_m. subst (λ r. ProfileOf (sum a b) (both_label x y) r) (sym c.beside.ensures)
    (sum_profile_of a b x y c.args.l.now c.args.m.now formed is_x is_y is_l is_m)
