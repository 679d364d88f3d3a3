use Rattle.std.proofs.lemmas.Result.{on_ok_weaker}
use Rattle.alg_model.specs.Expressions.{scoped}
use Rattle.alg_model.specs.Views.{pure_carrier}
use Rattle.alg_classes.specs.Classes.{ClassOf, alg_in}
use Rattle.alg_classes.specs.GrowthLaws.{grown_by_one}
use Rattle.scoped_classes.specs.Scoped.{inner_rule}
use Rattle.scoped_classes.proofs.list.add_inner.Goals as goal

pub returns : goal.returns
returns c = λ a b e formed same is. on_ok_weaker c.add.result
    (grown_by_one (ClassOf (alg_in (scoped a b) e)) (inner_rule (pure_carrier c.args.first.now) c.args.y.now.profile)
    c.args.list.now c.add.new.self c.in_ok-inner_class.field-0 c.in_ok-inner_class.ensures.profile
    (c.in_ok-inner_class.ensures.class a b e formed same is)) c.add.ensures.ok
