use Rattle.std.proofs.lemmas.Result.{on_ok_weaker}
use Rattle.alg_model.specs.Expressions.{union}
use Rattle.alg_model.specs.Views.{pure_value}
use Rattle.alg_classes.specs.Classes.{ClassOf, alg_in}
use Rattle.alg_classes.specs.GrowthLaws.{grown_by_one}
use Rattle.union_classes.specs.Sums.{first_profile}
use Rattle.union_classes.proofs.CoverLaws.{first_class_of}
use Rattle.union_classes.proofs.unions.add_first.Goals as goal

pub returns : goal.returns
returns c = λ a b e formed is is_other. on_ok_weaker c.add.result
    (grown_by_one (ClassOf (alg_in (union a b) e)) (first_profile c.args.x.now.profile)
    c.args.unions.now c.add.new.self c.in_ok-first_class.field-0 c.in_ok-first_class.ensures.profile
    (first_class_of a b e c.args.x.now (pure_value c.args.other.now) c.in_ok-first_class.field-0 is_other is c.in_ok-first_class.ensures)) c.add.ensures.ok
