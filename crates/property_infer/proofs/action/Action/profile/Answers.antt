use Rattle.alg_model.specs.CarrierLaws.{carriers_are}
use Rattle.alg_model.specs.Carriers.{carrier_of}
use Rattle.alg_model.specs.Views.{expression_of}
use Rattle.alg_classes.specs.Inhabited.{carrier_inhabited}
use Rattle.property_infer.proofs.action.Action.profile.Goals as goal

pub returns-in-Constant : goal.returns-in-Constant
returns-in-Constant c =
    let action = rw c.in-Constant.is at c.requires.1 in
    rw c.in-Constant.is (c.constant_profile.ensures.exact (carriers_are (expression_of c.in-Constant.part.now) action.alg.formed) action.of_part.0)

pub returns-in-Keep : goal.returns-in-Keep
returns-in-Keep c =
    let action = rw c.in-Keep.is at c.requires.1 in
    rw c.in-Keep.is (c.kept_profile.ensures.exact (carriers_are (expression_of c.in-Keep.part.now) action.alg.formed))

pub returns-in-Deny : goal.returns-in-Deny
returns-in-Deny c =
    let part = expression_of c.in-Deny.field-0.now in
    let action = rw c.in-Deny.is at c.requires.1 in
    let v = carrier_inhabited part action.alg.formed in
    rw c.in-Deny.is (c.denied_profile.ensures.exact (carrier_of part) v.0 v.1)
