use Rattle.std.proofs.Common.{refl, sym, ap, ◌∙◌, subst, ◌-◌, length, take, drop, OnOk}
use Rattle.std.proofs.lemmas.Result.{on_ok_weaker}
use Rattle.std.specs.List.{AllByRecursion}
use Rattle.alg_classes.specs.ListLaws.{taken_apart}
use Rattle.profile_labels.specs.Deciding.{AreGrown}
use Rattle.profile_labels.specs.Labels.{Has}
use Rattle.profile_labels.specs.Outlines.{OutlinedOf, outline_label}
use Rattle.profile_labels.specs.declared.labelled.Labelled.{Labelled}
use Rattle.profile_labels.proofs.DecidingLaws.{labelled_of, grown_already_by, grown_more_by}
use Rattle.profile_labels.proofs.covering.+make_labels.Goals as goal

pub returns-then-has_profile : goal.returns-then-has_profile
returns-then-has_profile t c = λ a are.
    let x = c.first-item.result in
    let rest = take (length c.args.outlines.now - 1) (drop 1 c.args.outlines.now) in
    let old = c.args.labels.now in
    let has = subst (λ xs. Has xs x.profile) c.as_slice.ensures (c.has_profile.ensures.0 c.if-has_profile.true) in
    taken_apart
    (λ outlines. AllByRecursion (OutlinedOf a) outlines → OnOk c.make_labels.result (AreGrown a outlines old c.make_labels.new.labels))
    c.args.outlines.now x c.in-len1-up.len_at_least c.first-item.is
    (λ both. on_ok_weaker c.make_labels.result (grown_already_by a x rest old c.make_labels.new.labels has) (c.make_labels.ensures a both.1)) are

pub returns-in_ok-push-in-len1-up : goal.returns-in_ok-push-in-len1-up
returns-in_ok-push-in-len1-up t c = λ a are.
    let x = c.first-item.result in
    let rest = take (length c.args.outlines.now - 1) (drop 1 c.args.outlines.now) in
    let old = c.args.labels.now in
    let mid = c.push.new.self in
    let z : Labelled = record { profile = x.profile; label = c.in_ok-label-in-len1-up.label } in
    let none : ¬ Has old x.profile = λ h. let e = c.has_profile.ensures.1 (subst (λ xs. Has xs x.profile) (sym c.as_slice.ensures) h) in let f = c.if-has_profile.false in cc in
    taken_apart
    (λ outlines. AllByRecursion (OutlinedOf a) outlines → OnOk c.make_labels-in-len1-up.result (AreGrown a outlines old c.make_labels-in-len1-up.new.labels))
    c.args.outlines.now x c.in-len1-up.len_at_least c.first-item.is
    (λ both. on_ok_weaker c.make_labels-in-len1-up.result
    (grown_more_by a x rest old mid c.make_labels-in-len1-up.new.labels z (labelled_of a x z both.0 refl (c.in_ok-label-in-len1-up.ensures ∙ ap outline_label c.deref.ensures)) refl none c.in_ok-push-in-len1-up.ensures.ok)
    (c.make_labels-in-len1-up.ensures a both.1)) are
