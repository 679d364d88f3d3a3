use Rattle.std.proofs.Common.{sym, subst}
use Rattle.std.proofs.lemmas.Result.{IfOk-weaker}
use Rattle.alg_model.specs.Views.{expression_of}
use Rattle.alg_model.specs.Formation.{IsCarrier}
use Rattle.alg_model.specs.CarrierLaws.{carriers_of_equal}
use Rattle.alg_model.proofs.carrier.carrier_of.Goals as goal

pub returns-clause-may_be : goal.returns-clause-may_be
returns-clause-may_be c =
    let is = carriers_of_equal (expression_of c.tree.result.now) c.args.alg.now.expression c.tree.ensures.tree c.tree.ensures.formed.formed in
    IfOk-weaker c.tree_carrier.result _ _ (λ carrier e. subst IsCarrier (sym e) is) c.tree_carrier.ensures
