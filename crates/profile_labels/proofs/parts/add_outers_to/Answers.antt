use Rattle.std.proofs.Common.{refl, sym, subst}
use Rattle.std.proofs.lemmas.Result.{on_ok_weaker}
use Rattle.alg_model.specs.Carriers.{carrier_of}
use Rattle.alg_model.specs.Expressions.{scoped, outer}
use Rattle.alg_model.specs.Views.{expression_of}
use Rattle.alg_classes.specs.Classes.{alg_in}
use Rattle.alg_classes.specs.Growth.{Only}
use Rattle.alg_classes.specs.Pairs.{pair_profile}
use Rattle.profile_labels.specs.Growth.{Grown, Over}
use Rattle.profile_labels.specs.Labels.{IsLabelWith}
use Rattle.profile_labels.specs.Outlines.{OutlinedOf, extreme_of}
use Rattle.profile_labels.proofs.ExtremeLaws.{extreme_in, extreme_bounded}
use Rattle.profile_labels.proofs.StepLaws.{makes_outer}
use Rattle.profile_labels.proofs.parts.add_outers_to.Goals as goal

pub returns : goal.returns
returns c = λ a e formed bound are.
    let b = expression_of c.args.second.now in
    let d = carrier_of b in
    let v = extreme_of d c.args.end in
    let s = alg_in (scoped a b) e in
    let set = c.profile.result in
    let there = extreme_in b c.args.end c.requires.formed c.requires.there in
    let small = extreme_bounded b e c.args.end bound c.requires.there in
    on_ok_weaker c.add_steps.result
    (subst (λ k. Grown (OutlinedOf s) (Over (λ p. Only (pair_profile p k)) c.args.xs.now) c.args.list.now c.add_steps.new.list) c.profile.ensures)
    (c.add_steps.ensures (alg_in a e) s
    (λ l p i. subst (λ x. IsLabelWith s (outer l (extreme_of (carrier_of x) c.args.end)) (pair_profile p set)) (sym c.of.ensures)
    (subst (λ k. IsLabelWith s (outer l v) (pair_profile p k)) (sym c.profile.ensures) (makes_outer a b e d v formed refl there small l p i))) are)
