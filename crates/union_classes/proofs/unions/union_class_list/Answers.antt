use Rattle.std.proofs.Common.{sym, subst}
use Rattle.alg_model.specs.Expressions.{union}
use Rattle.alg_model.specs.Laws.{formed_union}
use Rattle.alg_classes.specs.Classes.{ClassOf, Covers, alg_in}
use Rattle.alg_classes.specs.Growth.{Grown, Only, Over}
use Rattle.union_classes.specs.Sums.{first_profile}
use Rattle.union_classes.proofs.CoverLaws.{unions_cover, never_unshown, shown_is}
use Rattle.union_classes.proofs.unions.union_class_list.Goals as goal

pub returns-in_default : goal.returns-in_default
returns-in_default c = λ a b e formed covers_a covers_b.
    let xs = c.classes-xs.result.now in
    let all : Covers (alg_in a e) xs = subst (Covers (alg_in a e)) (sym c.classes-xs.ensures.classes) covers_a in
    absurd (never_unshown (alg_in a e) xs (formed_union a b formed).0 all (sym c.in_default.ensures))

pub returns-in_default-shown_value : goal.returns-in_default-shown_value
returns-in_default-shown_value c = λ a b e formed covers_a covers_b.
    let ys = c.classes-ys.result.now in
    let all : Covers (alg_in b e) ys = subst (Covers (alg_in b e)) (sym c.classes-ys.ensures.classes) covers_b in
    absurd (never_unshown (alg_in b e) ys (formed_union a b formed).1 all (sym c.in_default-shown_value.ensures))

pub returns : goal.returns
returns c = λ a b e formed covers_a covers_b.
    let parts = formed_union a b formed in
    let xs = c.classes-xs.result.now in
    let ys = c.classes-ys.result.now in
    let all_a : Covers (alg_in a e) xs = subst (Covers (alg_in a e)) (sym c.classes-xs.ensures.classes) covers_a in
    let all_b : Covers (alg_in b e) ys = subst (Covers (alg_in b e)) (sym c.classes-ys.ensures.classes) covers_b in
    let is_u = shown_is (alg_in a e) xs c.in-Some.u.now parts.0 all_a (sym c.in-Some.ensures) in
    let is_v = shown_is (alg_in b e) ys c.in-Some-shown_value.v.now parts.1 all_b (sym c.in-Some-shown_value.ensures) in
    unions_cover a b e xs ys c.add_firsts.new.unions c.add_seconds.new.unions formed all_a all_b
    (subst (λ zs. Grown (ClassOf (alg_in (union a b) e)) (Over (λ p. Only (first_profile p)) xs) zs c.add_firsts.new.unions) c.new-unions.ensures
    (c.in_ok-add_firsts.ensures a b e formed all_a.each is_v))
    (c.in_ok-add_seconds.ensures a b e formed all_b.each is_u)
