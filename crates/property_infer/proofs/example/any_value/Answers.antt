use Rattle.std.proofs.Common.{sym, subst, ap, ◌∙◌}
use Rattle.alg_model.specs.CarrierLaws.{carriers_are}
use Rattle.alg_model.specs.Carriers.{carrier_of, In}
use Rattle.alg_model.specs.Views.{pure_value}
use Rattle.alg_classes.specs.Flat.{best}
use Rattle.alg_classes.specs.FlatLaws.{best_in}
use Rattle.property_infer.specs.Asked.{carrier_under, part_of}
use Rattle.property_infer.proofs.Leaves.{label_number_is_small, both_if_ok}
use Rattle.property_infer.proofs.example.any_value.Goals as goal

pub returns : goal.returns
returns c =
    let d = carrier_under c.args.action in
    let same = ap carrier_of c.part.ensures in
    let in_it = best_in d (carriers_are (part_of c.args.action) c.requires.1.alg.formed) in
    both_if_ok c.best_value.result _ _ _ (λ v e s. (subst (In d) (sym (e ∙ ap best same)) in_it, label_number_is_small (pure_value v) s)) c.best_value.ensures.value c.best_value.ensures.small
