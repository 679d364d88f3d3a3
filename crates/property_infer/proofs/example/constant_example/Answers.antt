use Rattle.std.proofs.Common.{sym, subst, ◌∙◌}
use Rattle.alg_model.specs.declared.alg.TheConstants.{MAX_INSTANCE_NUMBER}
use Rattle.alg_model.specs.declared.edition.TheConstants.{MAX_LABEL_NUMBER}
use Rattle.alg_model.specs.Bounds.{AtMost, greatest_number}
use Rattle.alg_model.specs.Carriers.{carrier_of}
use Rattle.alg_model.specs.Laws.{at_most_more, greatest_is_bounded}
use Rattle.alg_model.specs.Views.{expression_of, pure_carrier, pure_value}
use Rattle.property_infer.proofs.Leaves.{apart_made, constant_apart, value_is_small}
use Rattle.property_infer.proofs.example.constant_example.Goals as goal

pub worse_than-requires-clause-small : goal.worse_than-requires-clause-small
worse_than-requires-clause-small c =
    let e = c.requires.0 in
    at_most_more (greatest_number e) MAX_LABEL_NUMBER (pure_value c.args.value.now) (greatest_is_bounded e) c.requires.1.of_part.1

pub returns-in_ok-copy-in-Dead-clause-small : goal.returns-in_ok-copy-in-Dead-clause-small
returns-in_ok-copy-in-Dead-clause-small c =
    subst (AtMost MAX_INSTANCE_NUMBER) (sym c.in_ok-copy-in-Dead.ensures)
    (value_is_small (greatest_number c.requires.0) (pure_value c.args.value.now) (greatest_is_bounded c.requires.0) c.requires.1.of_part.1)

pub returns-in_ok-apart-in-Cancellative-clause-made : goal.returns-in_ok-apart-in-Cancellative-clause-made
returns-in_ok-apart-in-Cancellative-clause-made c =
    let d = carrier_of (expression_of c.args.part.now) in
    let made = apart_made (pure_carrier c.in_ok-part_carrier-in-Cancellative.field-0) d c.in_ok-apart-in-Cancellative.field-0 c.in_ok-apart-in-Cancellative.ensures.values
    c.in_ok-part_carrier-in-Cancellative.ensures.carrier in
    c.between.ensures ∙ (made ∙ sym (constant_apart d (pure_value c.args.value.now) c.args.fact c.in-Cancellative.is))
