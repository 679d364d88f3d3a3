use Rattle.std.proofs.Common.{sym, subst, [], ◌∷◌}
use Rattle.std.proofs.lemmas.Result.{IfOk-weaker}
use Rattle.alg_model.specs.Views.{pure_label}
use Rattle.property_infer.specs.Labels.{CoversLabels}
use Rattle.property_infer.specs.LabelLaws.{covers_none}
use Rattle.property_infer.specs.ReportedLaws.{reported_bounded, stated_of_label}
use Rattle.property_infer.specs.Views.{pure_verdicts}
use Rattle.property_infer.proofs.decided.label_verdicts.Goals as goal

pub verdicts_of-requires : goal.verdicts_of-requires
verdicts_of-requires c =
    let a = c.args.alg.now in
    let none = subst (CoversLabels a []) (sym c.new-labels.ensures) (covers_none a) in
    let covers = subst (CoversLabels a (pure_label c.args.label.now ∷ [])) (sym c.as_slice.ensures) (c.in_ok-add_label.ensures.covers [] none) in
    covers.each

pub returns-clause-exact : goal.returns-clause-exact
returns-clause-exact c =
    let a = c.args.alg.now in
    let l = pure_label c.args.label.now in
    let none = subst (CoversLabels a []) (sym c.new-labels.ensures) (covers_none a) in
    let covers = subst (CoversLabels a (l ∷ [])) (sym c.as_slice.ensures) (c.in_ok-add_label.ensures.covers [] none) in
    IfOk-weaker c.verdicts_of.result _ _ (λ v reported. stated_of_label a l c.as_slice.result.now (pure_verdicts v) covers reported) c.verdicts_of.ensures

pub returns-clause-bound : goal.returns-clause-bound
returns-clause-bound c = IfOk-weaker c.verdicts_of.result _ _
    (λ v reported. reported_bounded c.args.alg.now c.as_slice.result.now (pure_verdicts v) reported) c.verdicts_of.ensures
