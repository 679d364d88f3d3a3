use Rattle.std.proofs.Common.{sym, ap, subst, ◌∙◌}
use Rattle.alg_model.specs.Carriers.{carrier_of}
use Rattle.alg_model.specs.CarrierLaws.{carriers_are}
use Rattle.alg_model.specs.Views.{expression_of}
use Rattle.alg_classes.specs.Flat.{best}
use Rattle.alg_classes.specs.Constants.{constant_profile}
use Rattle.profile_labels.specs.Extremes.{HasExtreme}
use Rattle.profile_labels.specs.Outlines.{extreme_of}
use Rattle.profile_labels.proofs.ExtremeLaws.{made_at_best, made_at_worst}
use Rattle.profile_labels.proofs.extreme.Extreme.profile.Goals as goal

pub returns-in-Best : goal.returns-in-Best
returns-in-Best c =
    let a = expression_of c.args.part.now in
    let d = carrier_of a in
    made_at_best d c.kept_profile-kept.result (carriers_are a c.requires.formed) c.kept_profile-kept.ensures.profile
    ∙ ap (λ end. constant_profile d (extreme_of d end)) (sym c.in-Best.is)

pub returns-in-Worst : goal.returns-in-Worst
returns-in-Worst c =
    let a = expression_of c.args.part.now in
    let d = carrier_of a in
    made_at_worst d c.kept_profile-kept.result (best d) (carriers_are a c.requires.formed) (subst (HasExtreme d) c.in-Worst.is c.requires.there)
    c.kept_profile-kept.ensures.profile
    ∙ ap (λ end. constant_profile d (extreme_of d end)) (sym c.in-Worst.is)
