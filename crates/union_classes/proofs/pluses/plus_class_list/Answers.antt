use Rattle.std.proofs.Common.{sym, subst}
use Rattle.alg_model.specs.Expressions.{plus}
use Rattle.alg_classes.specs.Classes.{ClassOf, Covers, alg_in}
use Rattle.alg_classes.specs.Growth.{Grown, Only, Over}
use Rattle.union_classes.proofs.CoverLaws.{pluses_cover}
use Rattle.union_classes.proofs.pluses.plus_class_list.Goals as goal

pub returns : goal.returns
returns c = λ a b e formed covers_a covers_b.
    let xs = c.classes.result.now in
    let ys = c.classes-2.result.now in
    let all_a : Covers (alg_in a e) xs = subst (Covers (alg_in a e)) (sym c.classes.ensures.classes) covers_a in
    let all_b : Covers (alg_in b e) ys = subst (Covers (alg_in b e)) (sym c.classes-2.ensures.classes) covers_b in
    pluses_cover a b e xs ys c.add_firsts.new.pluses c.add_seconds.new.pluses formed all_a all_b
    (subst (λ zs. Grown (ClassOf (alg_in (plus a b) e)) (Over Only xs) zs c.add_firsts.new.pluses) c.new-pluses.ensures
    (c.in_ok-add_firsts.ensures a b e formed all_a.each))
    (c.in_ok-add_seconds.ensures a b e formed all_b.each)
