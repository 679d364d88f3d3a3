use Rattle.std.proofs.lemmas.Result.{on_ok_weaker}
use Rattle.alg_model.specs.Expressions.{sum}
use Rattle.alg_classes.specs.Classes.{ClassOf, alg_in}
use Rattle.alg_classes.specs.GrowthLaws.{grown_by_one}
use Rattle.union_classes.specs.Sums.{beside_profile}
use Rattle.union_classes.proofs.sums.add_sum.Goals as goal

pub returns : goal.returns
returns c = λ a b e formed is_x is_y. on_ok_weaker c.add.result
    (grown_by_one (ClassOf (alg_in (sum a b) e)) (beside_profile c.args.x.now.profile c.args.y.now.profile)
    c.args.sums.now c.add.new.self c.in_ok-sum_class.field-0
    c.in_ok-sum_class.ensures.made.profile (c.in_ok-sum_class.ensures.class a b e formed is_x is_y)) c.add.ensures.ok
