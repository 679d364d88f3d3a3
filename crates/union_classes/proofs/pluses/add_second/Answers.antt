use Rattle.std.proofs.lemmas.Result.{on_ok_weaker}
use Rattle.alg_model.specs.Expressions.{plus}
use Rattle.alg_classes.specs.Classes.{ClassOf, alg_in}
use Rattle.alg_classes.specs.GrowthLaws.{grown_by_one}
use Rattle.union_classes.proofs.pluses.add_second.Goals as goal

pub returns : goal.returns
returns c = λ a b e formed is. on_ok_weaker c.add.result
    (grown_by_one (ClassOf (alg_in (plus a b) e)) c.args.y.now.profile
    c.args.pluses.now c.add.new.self c.in_ok-plus_second_class.field-0
    c.in_ok-plus_second_class.ensures.profile (c.in_ok-plus_second_class.ensures.class a b e formed is)) c.add.ensures.ok
