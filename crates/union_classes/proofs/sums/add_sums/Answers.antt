use Rattle.std.proofs.Common.{arith}
use Rattle.alg_model.specs.Expressions.{sum}
use Rattle.alg_classes.specs.Classes.{ClassOf, alg_in}
use Rattle.alg_classes.specs.ListLaws.{one_of_all}
use Rattle.alg_classes.specs.Growth.{Only}
use Rattle.alg_classes.specs.GrowthLaws.{grown_none, grown_more, grown_all}
use Rattle.union_classes.specs.Sums.{beside_profile}
use Rattle.union_classes.proofs.sums.add_sums.Goals as goal

pub loop-y-init : goal.loop-y-init
loop-y-init c = λ a b e formed is_x are. grown_none (ClassOf (alg_in (sum a b) e)) (λ q. Only (beside_profile c.args.x.now.profile q)) c.args.sums.now

pub loop-y-preserved : goal.loop-y-preserved
loop-y-preserved c = λ a b e formed is_x are.
    let y = c.y-item.result in
    let is_y = one_of_all (ClassOf (alg_in b e)) c.args.ys.now c.loop-y.y-index y are (omega arith) c.y-item.is in
    grown_more (ClassOf (alg_in (sum a b) e)) (λ q. Only (beside_profile c.args.x.now.profile q)) c.args.ys.now c.loop-y.y-index y
    c.args.sums.now c.loop-y.sums c.add_sum.new.sums (omega arith) c.y-item.is
    (c.loop-y.invariant a b e formed is_x are) (c.in_ok-add_sum.ensures a b e formed is_x is_y)

pub returns : goal.returns
returns c = λ a b e formed is_x are.
    grown_all (ClassOf (alg_in (sum a b) e)) (λ q. Only (beside_profile c.args.x.now.profile q)) c.args.ys.now c.loop-y.y-index
    c.args.sums.now c.loop-y.sums (omega arith) (c.loop-y.invariant a b e formed is_x are)
