use Rattle.std.proofs.Common.{refl, ap, ◌∙◌, subst, ◌-◌, length, take, drop, OnOk}
use Rattle.std.proofs.lemmas.Result.{on_ok_weaker}
use Rattle.std.specs.List.{AllByRecursion}
use Rattle.alg_classes.specs.ListLaws.{taken_apart}
use Rattle.profile_labels.specs.Deciding.{AreDecided, DecidesMore}
use Rattle.profile_labels.specs.Outlines.{OutlinedOf, outline_label}
use Rattle.profile_labels.specs.declared.labelled.Labelled.{Labelled}
use Rattle.profile_labels.proofs.DecidingLaws.{labelled_of, decided_already, decided_more}
use Rattle.profile_labels.proofs.deciding.+add_deciding.Goals as goal

pub returns-then-are_decided : goal.returns-then-are_decided
returns-then-are_decided t c = λ a are.
    let x = c.first-item.result in
    let rest = take (length c.args.outlines.now - 1) (drop 1 c.args.outlines.now) in
    let old = c.args.labels.now in
    let decided = subst (λ xs. AreDecided xs x.profile) c.as_slice.ensures (c.are_decided.ensures.0 c.if-are_decided.true) in
    taken_apart
    (λ outlines. AllByRecursion (OutlinedOf a) outlines → OnOk c.add_deciding.result (DecidesMore a outlines old c.add_deciding.new.labels))
    c.args.outlines.now x c.in-len1-up.len_at_least c.first-item.is
    (λ both. on_ok_weaker c.add_deciding.result (decided_already a x rest old c.add_deciding.new.labels decided) (c.add_deciding.ensures a both.1)) are

pub returns-in_ok-push-in-len1-up : goal.returns-in_ok-push-in-len1-up
returns-in_ok-push-in-len1-up t c = λ a are.
    let x = c.first-item.result in
    let rest = take (length c.args.outlines.now - 1) (drop 1 c.args.outlines.now) in
    let old = c.args.labels.now in
    let mid = c.push.new.self in
    let z : Labelled = record { profile = x.profile; label = c.in_ok-label-in-len1-up.label } in
    taken_apart
    (λ outlines. AllByRecursion (OutlinedOf a) outlines → OnOk c.add_deciding-in-len1-up.result (DecidesMore a outlines old c.add_deciding-in-len1-up.new.labels))
    c.args.outlines.now x c.in-len1-up.len_at_least c.first-item.is
    (λ both. on_ok_weaker c.add_deciding-in-len1-up.result
    (decided_more a x rest old mid c.add_deciding-in-len1-up.new.labels z (labelled_of a x z both.0 refl (c.in_ok-label-in-len1-up.ensures ∙ ap outline_label c.deref.ensures)) refl c.in_ok-push-in-len1-up.ensures.ok)
    (c.add_deciding-in-len1-up.ensures a both.1)) are
