use Rattle.std.proofs.Common.{refl, sym, subst}
use Rattle.alg_model.specs.Carriers.{carrier_of}
use Rattle.alg_model.specs.Expressions.{lex, scoped, union, sum, plus, inner}
use Rattle.alg_model.specs.Views.{expression_of}
use Rattle.alg_classes.specs.Classes.{alg_in}
use Rattle.alg_classes.specs.Growth.{Only}
use Rattle.alg_classes.specs.Pairs.{pair_profile}
use Rattle.profile_labels.specs.Growth.{Grown, Over}
use Rattle.profile_labels.specs.Labels.{IsLabelWith}
use Rattle.profile_labels.specs.Outlines.{CoversBy, OutlinedOf}
use Rattle.profile_labels.proofs.StepLaws.{joins_lex, joins_sum, makes_union_first, makes_union_second, makes_plus_first, makes_plus_second, makes_inner, lex_covers, sum_covers, union_covers, plus_covers, scoped_covers}
use Rattle.profile_labels.proofs.parts.+part_labels.Goals as goal

pub labels_of_lex-returns : goal.labels_of_lex-returns
labels_of_lex-returns t c =
    let a = expression_of c.args.a.now in
    let b = expression_of c.args.b.now in
    let e = c.args.alg.now.edition in
    let formed = c.requires.formed in
    let cx = subst (CoversBy (alg_in a e)) (sym c.as_slice.ensures) c.in_ok-xs.ensures in
    let cy = subst (CoversBy (alg_in b e)) (sym c.as_slice-2.ensures) c.in_ok-ys.ensures in
    lex_covers a b e c.as_slice.result.now c.as_slice-2.result.now c.new-list.result c.add_joined.new.list formed c.new-list.ensures cx cy
    (c.in_ok-add_joined.ensures (alg_in a e) (alg_in b e) (alg_in (lex a b) e) (joins_lex a b e formed) cx.each cy.each)

pub labels_of_sum-returns : goal.labels_of_sum-returns
labels_of_sum-returns t c =
    let a = expression_of c.args.a.now in
    let b = expression_of c.args.b.now in
    let e = c.args.alg.now.edition in
    let formed = c.requires.formed in
    let cx = subst (CoversBy (alg_in a e)) (sym c.as_slice.ensures) c.in_ok-xs.ensures in
    let cy = subst (CoversBy (alg_in b e)) (sym c.as_slice-2.ensures) c.in_ok-ys.ensures in
    sum_covers a b e c.as_slice.result.now c.as_slice-2.result.now c.new-list.result c.add_joined.new.list formed c.new-list.ensures cx cy
    (c.in_ok-add_joined.ensures (alg_in a e) (alg_in b e) (alg_in (sum a b) e) (joins_sum a b e formed) cx.each cy.each)

pub labels_of_union-returns : goal.labels_of_union-returns
labels_of_union-returns t c =
    let a = expression_of c.args.a.now in
    let b = expression_of c.args.b.now in
    let e = c.args.alg.now.edition in
    let formed = c.requires.formed in
    let cx = subst (CoversBy (alg_in a e)) (sym c.as_slice.ensures) c.in_ok-xs.ensures in
    let cy = subst (CoversBy (alg_in b e)) (sym c.as_slice-2.ensures) c.in_ok-ys.ensures in
    union_covers a b e c.as_slice.result.now c.as_slice-2.result.now c.new-list.result c.add_steps.new.list c.add_steps-2.new.list formed c.new-list.ensures cx cy
    (c.in_ok-add_steps.ensures (alg_in a e) (alg_in (union a b) e) (makes_union_first a b e formed) cx.each)
    (c.in_ok-add_steps-2.ensures (alg_in b e) (alg_in (union a b) e) (makes_union_second a b e formed) cy.each)

pub labels_of_plus-returns : goal.labels_of_plus-returns
labels_of_plus-returns t c =
    let a = expression_of c.args.a.now in
    let b = expression_of c.args.b.now in
    let e = c.args.alg.now.edition in
    let formed = c.requires.formed in
    let cx = subst (CoversBy (alg_in a e)) (sym c.as_slice.ensures) c.in_ok-xs.ensures in
    let cy = subst (CoversBy (alg_in b e)) (sym c.as_slice-2.ensures) c.in_ok-ys.ensures in
    plus_covers a b e c.as_slice.result.now c.as_slice-2.result.now c.new-list.result c.add_steps.new.list c.add_steps-2.new.list formed c.new-list.ensures cx cy
    (c.in_ok-add_steps.ensures (alg_in a e) (alg_in (plus a b) e) (makes_plus_first a b e) cx.each)
    (c.in_ok-add_steps-2.ensures (alg_in b e) (alg_in (plus a b) e) (makes_plus_second a b e formed) cy.each)

pub labels_of_scoped-returns : goal.labels_of_scoped-returns
labels_of_scoped-returns t c =
    let a = expression_of c.args.a.now in
    let b = expression_of c.args.b.now in
    let e = c.args.alg.now.edition in
    let formed = c.requires.formed in
    let cx = subst (CoversBy (alg_in a e)) (sym c.as_slice.ensures) c.in_ok-xs.ensures in
    let cy = subst (CoversBy (alg_in b e)) (sym c.as_slice-2.ensures) c.in_ok-ys.ensures in
    let s = alg_in (scoped a b) e in
    let kept = c.kept_profile.result in
    let xs = c.as_slice.result.now in
    let ys = c.as_slice-2.result.now in
    let mid = c.add_outers.new.list in
    let new = c.add_steps.new.list in
    let same = c.kept_profile.ensures.profile in
    let inners = c.in_ok-add_steps.ensures (alg_in b e) s
    (λ m q i. subst (λ k. IsLabelWith s (inner m) (pair_profile k q)) (sym same) (makes_inner a b e (carrier_of a) formed refl m q i)) cy.each in
    scoped_covers a b e (carrier_of a) (carrier_of b) xs ys c.new-list.result mid new formed c.new-list.ensures refl refl cx cy
    (c.in_ok-add_outers.ensures a e formed c.requires.bound.1 cx.each)
    (subst (λ k. Grown (OutlinedOf s) (Over (λ q. Only (pair_profile k q)) ys) mid new) same inners)
