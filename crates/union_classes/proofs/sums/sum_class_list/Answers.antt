use Rattle.std.proofs.Common.{sym, subst, [], arith}
use Rattle.alg_model.specs.Expressions.{sum}
use Rattle.alg_classes.specs.Classes.{ClassOf, Covers, alg_in}
use Rattle.alg_classes.specs.ListLaws.{one_of_all}
use Rattle.alg_classes.specs.Growth.{Grown, Only, Over}
use Rattle.alg_classes.specs.GrowthLaws.{grown_none, grown_more, grown_all}
use Rattle.union_classes.specs.Sums.{beside_profile}
use Rattle.union_classes.proofs.CoverLaws.{sums_cover}
use Rattle.union_classes.proofs.sums.sum_class_list.Goals as goal

pub loop-x-init : goal.loop-x-init
loop-x-init c = λ a b e formed are_x are_y. subst
    (Grown (ClassOf (alg_in (sum a b) e)) (Over (λ p. Over (λ q. Only (beside_profile p q)) c.classes-ys.result.now) []) []) (sym c.new-sums.ensures)
    (grown_none (ClassOf (alg_in (sum a b) e)) (λ p. Over (λ q. Only (beside_profile p q)) c.classes-ys.result.now) [])

pub loop-x-preserved : goal.loop-x-preserved
loop-x-preserved c = λ a b e formed are_x are_y.
    let x = c.x-item.result in
    let is = one_of_all (ClassOf (alg_in a e)) c.classes-x-items.result.now c.loop-x.x-index x are_x (omega arith) c.x-item.is in
    grown_more (ClassOf (alg_in (sum a b) e)) (λ p. Over (λ q. Only (beside_profile p q)) c.classes-ys.result.now) c.classes-x-items.result.now c.loop-x.x-index x
    [] c.loop-x.sums c.add_sums.new.sums (omega arith) c.x-item.is
    (c.loop-x.invariant a b e formed are_x are_y) (c.in_ok-add_sums.ensures a b e formed is are_y)

pub returns : goal.returns
returns c = λ a b e formed covers_a covers_b.
    let xs = c.classes-x-items.result.now in
    let ys = c.classes-ys.result.now in
    let all_a : Covers (alg_in a e) xs = subst (Covers (alg_in a e)) (sym c.classes-x-items.ensures.classes) covers_a in
    let all_b : Covers (alg_in b e) ys = subst (Covers (alg_in b e)) (sym c.classes-ys.ensures.classes) covers_b in
    sums_cover a b e xs ys c.loop-x.sums formed all_a all_b
    (grown_all (ClassOf (alg_in (sum a b) e)) (λ p. Over (λ q. Only (beside_profile p q)) ys) xs c.loop-x.x-index
    [] c.loop-x.sums (omega arith) (c.loop-x.invariant a b e formed all_a.each all_b.each))
