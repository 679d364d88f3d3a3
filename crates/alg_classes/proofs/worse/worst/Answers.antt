use Rattle.std.proofs.Common.{◌≡◌, sym, subst, option_map}
use Rattle.std.proofs.lemmas.Result.{IfOk-weaker}
use Rattle.alg_model.specs.Views.{pure_carrier, pure_value}
use Rattle.alg_classes.specs.Worst.{worst, IsWorstIfAny}
use Rattle.alg_classes.specs.WorstLaws.{worst_is_worst}
use Rattle.alg_classes.proofs.worse.worst.Goals as goal

pub returns-clause-worst : goal.returns-clause-worst
returns-clause-worst c =
    let carrier = pure_carrier c.args.carrier.now in
    IfOk-weaker c.worst_value.result
    (λ w. option_map pure_value w ≡ worst carrier) (λ w. IsWorstIfAny carrier (option_map pure_value w))
    (λ w is. subst (IsWorstIfAny carrier) (sym is) (worst_is_worst carrier c.requires)) c.worst_value.ensures.value
