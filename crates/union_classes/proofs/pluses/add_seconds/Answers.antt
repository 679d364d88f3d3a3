use Rattle.std.proofs.Common.{arith}
use Rattle.alg_model.specs.Expressions.{plus}
use Rattle.alg_classes.specs.Classes.{ClassOf, alg_in}
use Rattle.alg_classes.specs.ListLaws.{one_of_all}
use Rattle.alg_classes.specs.Growth.{Only}
use Rattle.alg_classes.specs.GrowthLaws.{grown_none, grown_more}
use Rattle.union_classes.proofs.pluses.add_seconds.Goals as goal

pub loop-y-init : goal.loop-y-init
loop-y-init c = λ a b e formed are. grown_none (ClassOf (alg_in (plus a b) e)) Only c.args.pluses.now

pub loop-y-preserved : goal.loop-y-preserved
loop-y-preserved c = λ a b e formed are.
    let y = c.y-item.result in
    let is = one_of_all (ClassOf (alg_in b e)) c.args.ys.now c.loop-y.y-index y are (omega arith) c.y-item.is in
    grown_more (ClassOf (alg_in (plus a b) e)) Only c.args.ys.now c.loop-y.y-index y
    c.args.pluses.now c.loop-y.pluses c.add_second.new.pluses (omega arith) c.y-item.is
    (c.loop-y.invariant a b e formed are) (c.in_ok-add_second.ensures a b e formed is)
