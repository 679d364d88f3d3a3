use Rattle.std.proofs.Common.{arith}
use Rattle.alg_model.specs.Expressions.{scoped}
use Rattle.alg_model.specs.Views.{pure_carrier, pure_value}
use Rattle.alg_classes.specs.Classes.{ClassOf, alg_in}
use Rattle.alg_classes.specs.ListLaws.{one_of_all}
use Rattle.alg_classes.specs.Growth.{Only}
use Rattle.alg_classes.specs.GrowthLaws.{grown_none, grown_more, grown_all}
use Rattle.scoped_classes.specs.Scoped.{outer_rule}
use Rattle.scoped_classes.proofs.list.add_outers_to.Goals as goal

pub loop-x-init : goal.loop-x-init
loop-x-init c = λ a b e formed same small are. grown_none (ClassOf (alg_in (scoped a b) e))
    (λ p. Only (outer_rule (pure_carrier c.args.second.now) (pure_value c.args.value.now) p)) c.args.list.now

pub loop-x-preserved : goal.loop-x-preserved
loop-x-preserved c = λ a b e formed same small are.
    let x = c.x-item.result in
    let is = one_of_all (ClassOf (alg_in a e)) c.args.xs.now c.loop-x.x-index x are (omega arith) c.x-item.is in
    grown_more (ClassOf (alg_in (scoped a b) e)) (λ p. Only (outer_rule (pure_carrier c.args.second.now) (pure_value c.args.value.now) p))
    c.args.xs.now c.loop-x.x-index x c.args.list.now c.loop-x.list c.add_outer.new.list (omega arith) c.x-item.is
    (c.loop-x.invariant a b e formed same small are) (c.in_ok-add_outer.ensures a b e formed same small is)

pub returns : goal.returns
returns c = λ a b e formed same small are.
    grown_all (ClassOf (alg_in (scoped a b) e)) (λ p. Only (outer_rule (pure_carrier c.args.second.now) (pure_value c.args.value.now) p))
    c.args.xs.now c.loop-x.x-index c.args.list.now c.loop-x.list (omega arith) (c.loop-x.invariant a b e formed same small are)
