use Rattle.std.proofs.Common.{sym, subst}
use Rattle.alg_model.specs.Views.{pure_label}
use Rattle.profile_labels.specs.Labels.{Has}
use Rattle.profile_labels.specs.declared.labelled.Labelled.{Labelled}
use Rattle.property_infer.specs.LabelLaws.{covers_present, covers_if_pushed}
use Rattle.property_infer.proofs.labels.add_label.Goals as goal

pub returns-then-has_profile-clause-covers : goal.returns-then-has_profile-clause-covers
returns-then-has_profile-clause-covers c = λ all covers.
    let p = c.label_profile-profile.result in
    covers_present c.args.alg.now all (pure_label c.args.label.now) c.args.labels.now p c.label_profile-profile.ensures
    (subst (λ xs. Has xs p) c.as_slice.ensures (c.has_profile.ensures.0 c.if-has_profile.true)) covers

pub returns-clause-covers : goal.returns-clause-covers
returns-clause-covers c = λ all covers.
    let p = c.label_profile-profile.result in
    let x : Labelled = record { profile = p; label = c.in_ok-copy.field-0 } in
    let none : ¬ Has c.args.labels.now p = λ h. let e = c.has_profile.ensures.1 (subst (λ xs. Has xs p) (sym c.as_slice.ensures) h) in let f = c.if-has_profile.false in cc in
    covers_if_pushed c.args.alg.now all (pure_label c.args.label.now) c.args.labels.now c.push.new.self x c.push.result
    (record { label = c.requires.label; small = c.requires.small; profile = c.label_profile-profile.ensures }) none c.in_ok-copy.ensures c.push.ensures.ok covers
