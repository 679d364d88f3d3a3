use Rattle.std.proofs.lemmas.Result.{on_ok_weaker}
use Rattle.alg_model.specs.Expressions.{union}
use Rattle.alg_model.specs.Views.{pure_value}
use Rattle.alg_classes.specs.Classes.{ClassOf, alg_in}
use Rattle.alg_classes.specs.GrowthLaws.{grown_by_one}
use Rattle.union_classes.specs.Sums.{second_profile}
use Rattle.union_classes.proofs.CoverLaws.{second_class_of}
use Rattle.union_classes.proofs.unions.add_second.Goals as goal

pub returns : goal.returns
returns c = λ a b e formed is is_other. on_ok_weaker c.add.result
    (grown_by_one (ClassOf (alg_in (union a b) e)) (second_profile c.args.y.now.profile)
    c.args.unions.now c.add.new.self c.in_ok-second_class.field-0 c.in_ok-second_class.ensures.profile
    (second_class_of a b e c.args.y.now (pure_value c.args.other.now) c.in_ok-second_class.field-0 is_other is c.in_ok-second_class.ensures)) c.add.ensures.ok
