use Rattle.std.proofs.lemmas.Result.{on_ok_weaker}
use Rattle.alg_model.specs.Expressions.{left}
use Rattle.alg_model.specs.Views.{pure_carrier, pure_value}
use Rattle.alg_classes.specs.Classes.{ClassOf, alg_in}
use Rattle.alg_classes.specs.Constants.{constant_profile}
use Rattle.alg_classes.specs.GrowthLaws.{grown_by_one}
use Rattle.union_classes.proofs.lefts.add_const.Goals as goal

pub returns : goal.returns
returns c = λ a e same small. on_ok_weaker c.add.result
    (grown_by_one (ClassOf (alg_in (left a) e)) (constant_profile (pure_carrier c.args.carrier.now) (pure_value c.args.value.now))
    c.args.lefts.now c.add.new.self c.in_ok-const_class.field-0
    c.in_ok-const_class.ensures.profile (c.in_ok-const_class.ensures.class a e same small)) c.add.ensures.ok
