use Rattle.std.proofs.Common.{sym, subst}
use Rattle.std.proofs.lemmas.Result.{IfOk-weaker}
use Rattle.profile_labels.specs.Deciding.{Decides}
use Rattle.property_infer.specs.ReportedLaws.{reported_bounded, decided_of_all}
use Rattle.property_infer.specs.Views.{pure_verdicts}
use Rattle.property_infer.proofs.decided.verdicts.Goals as goal

pub returns-clause-exact : goal.returns-clause-exact
returns-clause-exact c =
    let a = c.args.alg.now in
    let decides = subst (Decides a) (sym c.as_slice.ensures) c.in_ok-labels.ensures in
    IfOk-weaker c.verdicts_of.result _ _ (λ v reported. decided_of_all a c.as_slice.result.now (pure_verdicts v) decides reported) c.verdicts_of.ensures

pub returns-clause-bound : goal.returns-clause-bound
returns-clause-bound c = IfOk-weaker c.verdicts_of.result _ _
    (λ v reported. reported_bounded c.args.alg.now c.as_slice.result.now (pure_verdicts v) reported) c.verdicts_of.ensures
