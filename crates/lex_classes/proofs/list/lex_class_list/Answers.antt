use Rattle.std.proofs.Common.{◌≡◌, ◌<◌, [], length, get_or, sym, subst, ap, arith}
use Rattle.std.specs.List.{AllByRecursion}
use Rattle.alg_model.specs.Expressions.{lex}
use Rattle.alg_classes.specs.Classes.{ClassOf, alg_in}
use Rattle.alg_classes.specs.ListLaws.{one_of_all}
use Rattle.alg_classes.specs.Growth.{Grown}
use Rattle.alg_classes.specs.GrowthLaws.{grown_none, grown_more, grown_all}
use Rattle.lex_classes.specs.Lexical.{WithEach, OfAllPairs}
use Rattle.lex_classes.specs.LexLaws.{grown_covers}
use Rattle.lex_classes.proofs.list.lex_class_list.Goals as goal

pub loop-x-init : goal.loop-x-init
loop-x-init c = λ a b e formed are_x are_y.
    let P = ClassOf (alg_in (lex a b) e) in
    subst (Grown P (OfAllPairs [] c.args.b.now) []) (sym c.new-list.ensures) (grown_none P (WithEach c.args.b.now) [])

pub loop-x-preserved : goal.loop-x-preserved
loop-x-preserved c = λ a b e formed are_x are_y.
    let P = ClassOf (alg_in (lex a b) e) in
    let x = c.x-item.result in
    let i = c.loop-x.x-index in
    let items = c.classes-x-items.ensures.classes in
    let below = subst (λ xs. i < length xs) items c.loop-x-test.true in
    let is = subst (λ xs. x ≡ get_or xs i x) items c.x-item.is in
    let is_x = one_of_all (ClassOf (alg_in a e)) c.args.a.now i x are_x below is in
    let are = subst (AllByRecursion (ClassOf (alg_in b e))) (sym c.classes.ensures.classes) are_y in
    let step = subst (λ ys. Grown P (WithEach ys x.profile) c.loop-x.list c.add_pairs.new.list) c.classes.ensures.classes
    (c.in_ok-add_pairs.ensures a b e formed is_x are) in
    grown_more P (WithEach c.args.b.now) c.args.a.now i x [] c.loop-x.list c.add_pairs.new.list below is
    (c.loop-x.invariant a b e formed are_x are_y) step

pub returns : goal.returns
returns c = λ a b e formed covers_a covers_b.
    let items : length c.classes-x-items.result.now ≡ length c.args.a.now = ap length c.classes-x-items.ensures.classes in
    grown_covers a b e c.args.a.now c.args.b.now c.loop-x.list formed covers_a covers_b
    (grown_all (ClassOf (alg_in (lex a b) e)) (WithEach c.args.b.now) c.args.a.now c.loop-x.x-index [] c.loop-x.list (omega (arith, items, c.loop-x-test.false))
    (c.loop-x.invariant a b e formed covers_a.each covers_b.each))
