use Rattle.std.proofs.lemmas.Result.{on_ok_weaker}
use Rattle.alg_model.specs.Expressions.{scoped}
use Rattle.alg_model.specs.Views.{pure_carrier, pure_value}
use Rattle.alg_classes.specs.Classes.{ClassOf, alg_in}
use Rattle.alg_classes.specs.GrowthLaws.{grown_by_one}
use Rattle.scoped_classes.specs.Scoped.{outer_rule}
use Rattle.scoped_classes.proofs.list.add_outer.Goals as goal

pub returns : goal.returns
returns c = λ a b e formed same small is. on_ok_weaker c.add.result
    (grown_by_one (ClassOf (alg_in (scoped a b) e)) (outer_rule (pure_carrier c.args.second.now) (pure_value c.args.value.now) c.args.x.now.profile)
    c.args.list.now c.add.new.self c.in_ok-outer_class.field-0 c.in_ok-outer_class.ensures.profile
    (c.in_ok-outer_class.ensures.class a b e formed same small is)) c.add.ensures.ok
