use Rattle.std.proofs.Common.{refl, sym, ap, subst}
use Rattle.std.proofs.lemmas.Result.{on_ok_weaker}
use Rattle.alg_classes.specs.GrowthLaws.{grown_already, grown_by_new}
use Rattle.profile_labels.specs.declared.outlined.Outlined.{Outlined}
use Rattle.profile_labels.specs.Labels.{IsLabelWith}
use Rattle.profile_labels.specs.Outlines.{OutlinedOf, Has, outline_label}
use Rattle.profile_labels.proofs.outlined.add_label.Goals as goal

pub returns-then-has_profile : goal.returns-then-has_profile
returns-then-has_profile c = λ a is.
    let p = c.args.profile in
    grown_already (OutlinedOf a) p c.args.list.now (subst (λ xs. Has xs p) c.as_slice.ensures (c.has_profile.ensures.0 c.if-has_profile.true))

pub returns : goal.returns
returns c = λ a is.
    let p = c.args.profile in
    let x : Outlined = record { profile = p; outline = c.in_ok-outline.outline } in
    let with : OutlinedOf a x = subst (λ l. IsLabelWith a l p) (sym (ap outline_label c.in_ok-outline.ensures.ok)) is in
    let none : ¬ Has c.args.list.now p = λ h. let e = c.has_profile.ensures.1 (subst (λ xs. Has xs p) (sym c.as_slice.ensures) h) in let f = c.if-has_profile.false in cc in
    on_ok_weaker c.push.result (grown_by_new (OutlinedOf a) p c.args.list.now c.push.new.self x refl with none) c.push.ensures.ok
