use Rattle.std.proofs.Common.{arith}
use Rattle.alg_model.specs.Expressions.{union}
use Rattle.alg_classes.specs.Classes.{ClassOf, alg_in}
use Rattle.alg_classes.specs.ListLaws.{one_of_all}
use Rattle.alg_classes.specs.Growth.{Only}
use Rattle.alg_classes.specs.GrowthLaws.{grown_none, grown_more}
use Rattle.union_classes.specs.Sums.{first_profile}
use Rattle.union_classes.proofs.unions.add_firsts.Goals as goal

pub loop-x-init : goal.loop-x-init
loop-x-init c = λ a b e formed are is_other. grown_none (ClassOf (alg_in (union a b) e)) (λ p. Only (first_profile p)) c.args.unions.now

pub loop-x-preserved : goal.loop-x-preserved
loop-x-preserved c = λ a b e formed are is_other.
    let x = c.x-item.result in
    let is = one_of_all (ClassOf (alg_in a e)) c.args.xs.now c.loop-x.x-index x are (omega arith) c.x-item.is in
    grown_more (ClassOf (alg_in (union a b) e)) (λ p. Only (first_profile p)) c.args.xs.now c.loop-x.x-index x
    c.args.unions.now c.loop-x.unions c.add_first.new.unions (omega arith) c.x-item.is
    (c.loop-x.invariant a b e formed are is_other) (c.in_ok-add_first.ensures a b e formed is is_other)
