use Rattle.std.proofs.Common.{arith}
use Rattle.alg_model.specs.Expressions.{lex}
use Rattle.alg_classes.specs.Classes.{ClassOf, alg_in}
use Rattle.alg_classes.specs.Pairs.{pair_profile}
use Rattle.alg_classes.specs.ListLaws.{one_of_all}
use Rattle.alg_classes.specs.Growth.{Only}
use Rattle.alg_classes.specs.GrowthLaws.{grown_none, grown_more, grown_all}
use Rattle.lex_classes.proofs.list.add_pairs.Goals as goal

pub loop-y-init : goal.loop-y-init
loop-y-init c = λ a b e formed is are.
    grown_none (ClassOf (alg_in (lex a b) e)) (λ q. Only (pair_profile c.args.x.now.profile q)) c.args.list.now

pub loop-y-preserved : goal.loop-y-preserved
loop-y-preserved c = λ a b e formed is are.
    let y = c.y-item.result in
    let is_y = one_of_all (ClassOf (alg_in b e)) c.args.ys.now c.loop-y.y-index y are (omega arith) c.y-item.is in
    grown_more (ClassOf (alg_in (lex a b) e)) (λ q. Only (pair_profile c.args.x.now.profile q)) c.args.ys.now c.loop-y.y-index y
    c.args.list.now c.loop-y.list c.add_pair.new.list (omega arith) c.y-item.is
    (c.loop-y.invariant a b e formed is are) (c.in_ok-add_pair.ensures a b e formed is is_y)

pub returns : goal.returns
returns c = λ a b e formed is are.
    grown_all (ClassOf (alg_in (lex a b) e)) (λ q. Only (pair_profile c.args.x.now.profile q)) c.args.ys.now c.loop-y.y-index
    c.args.list.now c.loop-y.list (omega arith) (c.loop-y.invariant a b e formed is are)
