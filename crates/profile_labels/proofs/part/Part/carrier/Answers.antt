use Rattle.std.proofs.Common.{sym, subst}
use Rattle.std.proofs.lemmas.Result.{IfOk-weaker}
use Rattle.alg_model.specs.Views.{expression_of}
use Rattle.alg_model.specs.Formation.{IsCarrier}
use Rattle.alg_model.specs.CarrierLaws.{carriers_are}
use Rattle.profile_labels.proofs.part.Part.carrier.Goals as goal

pub returns-clause-may_be : goal.returns-clause-may_be
returns-clause-may_be c =
    IfOk-weaker c.tree_carrier.result _ _ (λ carrier e. subst IsCarrier (sym e) (carriers_are (expression_of c.self.inside.tree.now) c.self.invariant))
    c.tree_carrier.ensures
