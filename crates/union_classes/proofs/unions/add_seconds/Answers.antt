use Rattle.std.proofs.Common.{arith}
use Rattle.alg_model.specs.Expressions.{union}
use Rattle.alg_classes.specs.Classes.{ClassOf, alg_in}
use Rattle.alg_classes.specs.ListLaws.{one_of_all}
use Rattle.alg_classes.specs.Growth.{Only}
use Rattle.alg_classes.specs.GrowthLaws.{grown_none, grown_more}
use Rattle.union_classes.specs.Sums.{second_profile}
use Rattle.union_classes.proofs.unions.add_seconds.Goals as goal

pub loop-y-init : goal.loop-y-init
loop-y-init c = λ a b e formed are is_other. grown_none (ClassOf (alg_in (union a b) e)) (λ p. Only (second_profile p)) c.args.unions.now

pub loop-y-preserved : goal.loop-y-preserved
loop-y-preserved c = λ a b e formed are is_other.
    let y = c.y-item.result in
    let is = one_of_all (ClassOf (alg_in b e)) c.args.ys.now c.loop-y.y-index y are (omega arith) c.y-item.is in
    grown_more (ClassOf (alg_in (union a b) e)) (λ p. Only (second_profile p)) c.args.ys.now c.loop-y.y-index y
    c.args.unions.now c.loop-y.unions c.add_second.new.unions (omega arith) c.y-item.is
    (c.loop-y.invariant a b e formed are is_other) (c.in_ok-add_second.ensures a b e formed is is_other)
