use Rattle.std.proofs.Common.{sym, ap, ◌∙◌, subst}
use Rattle.std.proofs.lemmas.Result.{on_ok_weaker}
use Rattle.profile_labels.specs.declared.outlined.Outlined.{Outlined}
use Rattle.alg_classes.specs.Growth.{Only}
use Rattle.alg_classes.specs.GrowthLaws.{grown_already, grown_by_new}
use Rattle.profile_labels.specs.Growth.{Grown}
use Rattle.profile_labels.specs.Outlines.{OutlinedOf, Has, outline_label}
use Rattle.profile_labels.specs.Steps.{step_profile}
use Rattle.profile_labels.proofs.StepLaws.{made}
use Rattle.profile_labels.proofs.step.add_step.Goals as goal

pub returns-then-has_profile : goal.returns-then-has_profile
returns-then-has_profile c = λ a d makes is.
    let p = c.profile-profile.result in
    let has = subst (λ xs. Has xs p) c.as_slice.ensures (c.has_profile.ensures.0 c.if-has_profile.true) in
    subst (λ q. Grown (OutlinedOf d) (Only q) c.args.list.now c.args.list.now) c.profile-profile.ensures
    (grown_already (OutlinedOf d) p c.args.list.now has)

pub returns : goal.returns
returns c = λ a d makes is.
    let p = c.profile-profile.result in
    let x : Outlined = record { profile = p; outline = c.in_ok-outline.outline } in
    let label = ap outline_label c.in_ok-outline.ensures.ok ∙ c.in_ok-made.ensures in
    let none : ¬ Has c.args.list.now p = λ h. let e = c.has_profile.ensures.1 (subst (λ xs. Has xs p) (sym c.as_slice.ensures) h) in let f = c.if-has_profile.false in cc in
    on_ok_weaker c.push.result
    (grown_by_new (OutlinedOf d) (step_profile c.args.step.now c.args.part.now.profile) c.args.list.now c.push.new.self x c.profile-profile.ensures
    (made a d c.args.step.now c.args.part.now x makes is c.profile-profile.ensures label)
    (subst (λ q. ¬ Has c.args.list.now q) c.profile-profile.ensures none)) c.push.ensures.ok
