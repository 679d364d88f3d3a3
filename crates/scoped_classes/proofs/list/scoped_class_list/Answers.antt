use Rattle.std.proofs.Common.{sym, subst}
use Rattle.alg_model.specs.Expressions.{scoped}
use Rattle.alg_model.specs.Views.{pure_carrier}
use Rattle.alg_classes.specs.Classes.{ClassOf, Covers, alg_in}
use Rattle.alg_classes.specs.Growth.{Grown, Over}
use Rattle.scoped_classes.specs.Scoped.{OfOuters}
use Rattle.scoped_classes.specs.ScopedLaws.{grown_covers}
use Rattle.scoped_classes.proofs.list.scoped_class_list.Goals as goal

pub returns : goal.returns
returns c = λ a b e formed bound same_first same_second covers_a covers_b.
    let P = ClassOf (alg_in (scoped a b) e) in
    let first = pure_carrier c.args.first.now in
    let second = pure_carrier c.args.second.now in
    let xs = c.classes.result.now in
    let ys = c.classes-2.result.now in
    let mid = c.add_outers.new.list in
    let end = c.add_inners.new.list in
    let all_a : Covers (alg_in a e) xs = subst (Covers (alg_in a e)) (sym c.classes.ensures.classes) covers_a in
    let all_b : Covers (alg_in b e) ys = subst (Covers (alg_in b e)) (sym c.classes-2.ensures.classes) covers_b in
    grown_covers a b e first second xs ys mid end formed same_first same_second all_a all_b
    (subst (λ old. Grown P (Over (OfOuters second) xs) old mid) c.new-list.ensures
    (c.in_ok-add_outers.ensures a b e formed bound same_second all_a.each))
    (c.in_ok-add_inners.ensures a b e formed same_first all_b.each)
