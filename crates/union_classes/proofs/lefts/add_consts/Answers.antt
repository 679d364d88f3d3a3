use Rattle.std.proofs.Common.{sym, ap, subst, ◌∙◌, option_map}
use Rattle.std.proofs.lemmas.Result.{on_ok_weaker}
use Rattle.alg_model.specs.Expressions.{left}
use Rattle.alg_model.specs.Views.{pure_carrier, pure_value}
use Rattle.alg_model.specs.Carriers.{In}
use Rattle.alg_classes.specs.Classes.{ClassOf, alg_in}
use Rattle.alg_classes.specs.Constants.{constant_profile}
use Rattle.alg_classes.specs.FlatLaws.{best_in}
use Rattle.alg_classes.specs.Growth.{Grown, Only}
use Rattle.alg_classes.specs.Worst.{IsWithin}
use Rattle.alg_classes.specs.WorstLaws.{best_within, worst_within, within_edition}
use Rattle.union_classes.proofs.ConstLaws.{grown_by_best, grown_by_both}
use Rattle.union_classes.proofs.lefts.add_consts.Goals as goal

pub add_const-requires-clause-value : goal.add_const-requires-clause-value
add_const-requires-clause-value c =
    let d = pure_carrier c.args.carrier.now in
    subst (In d) (sym c.in_ok-best.ensures.value) (best_in d c.requires)

pub returns-in-Some : goal.returns-in-Some
returns-in-Some c = λ a e bound same.
    let P = ClassOf (alg_in (left a) e) in
    let d = pure_carrier c.args.carrier.now in
    let u = pure_value c.in_ok-best.field-0 in
    let w = pure_value c.in-Some.value in
    let best_is = c.in_ok-best.ensures.value in
    let worst_is = sym c.in_ok-value.ensures.value ∙ ap (option_map pure_value) c.in-Some.is in
    let first = c.in_ok-add_const.ensures a e same (within_edition a e d u bound same (subst (IsWithin d) (sym best_is) (best_within d))) in
    on_ok_weaker c.add_const-in-Some.result
    (grown_by_both P d w c.args.lefts.now c.add_const.new.lefts c.add_const-in-Some.new.lefts c.requires worst_is
    (subst (λ v. Grown P (Only (constant_profile d v)) c.args.lefts.now c.add_const.new.lefts) best_is first))
    (c.add_const-in-Some.ensures a e same (within_edition a e d w bound same (worst_within d w worst_is)))

pub returns-in-None : goal.returns-in-None
returns-in-None c = λ a e bound same.
    let P = ClassOf (alg_in (left a) e) in
    let d = pure_carrier c.args.carrier.now in
    let u = pure_value c.in_ok-best.field-0 in
    let best_is = c.in_ok-best.ensures.value in
    let worst_is = sym c.in_ok-value.ensures.value ∙ ap (option_map pure_value) c.in-None.is in
    let first = c.in_ok-add_const.ensures a e same (within_edition a e d u bound same (subst (IsWithin d) (sym best_is) (best_within d))) in
    grown_by_best P d c.args.lefts.now c.add_const.new.lefts c.requires worst_is
    (subst (λ v. Grown P (Only (constant_profile d v)) c.args.lefts.now c.add_const.new.lefts) best_is first)
