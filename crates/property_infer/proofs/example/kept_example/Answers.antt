use Rattle.std.proofs.Common.{sym, ◌∙◌}
use Rattle.alg_model.specs.Carriers.{carrier_of}
use Rattle.alg_model.specs.Views.{expression_of, pure_carrier, pure_value}
use Rattle.property_infer.proofs.Leaves.{apart_made, kept_apart, label_number_is_small}
use Rattle.property_infer.proofs.example.kept_example.Goals as goal

pub returns-in_ok-best_value-in-Dead-clause-small : goal.returns-in_ok-best_value-in-Dead-clause-small
returns-in_ok-best_value-in-Dead-clause-small c = label_number_is_small (pure_value c.in_ok-best_value-in-Dead.field-0) c.in_ok-best_value-in-Dead.ensures.small

pub returns-in_ok-apart-in-Condensed-clause-made : goal.returns-in_ok-apart-in-Condensed-clause-made
returns-in_ok-apart-in-Condensed-clause-made c =
    let d = carrier_of (expression_of c.args.part.now) in
    let made = apart_made (pure_carrier c.in_ok-part_carrier-in-Condensed.field-0) d c.in_ok-apart-in-Condensed.field-0 c.in_ok-apart-in-Condensed.ensures.values
    c.in_ok-part_carrier-in-Condensed.ensures.carrier in
    c.between.ensures ∙ (made ∙ sym (kept_apart d c.args.fact c.in-Condensed.is))
