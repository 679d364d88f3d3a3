use Rattle.std.proofs.Common.{◌∙◌, ap, sym}
use Rattle.topology_file.specs.QuickForms.{has_name_length}
use Rattle.topology_file.proofs.QuickForms.{begins_named}
use Rattle.topology_file.proofs.quick_forms.split_name.Goals as goal

pub returns : goal.returns
returns c =
    begins_named c.args.text.now c.after_blanks-text.result.now c.split_after_name-first.result.0 c.split_after_name-first.result.1.now
    c.after_blanks-text.ensures c.split_after_name-first.ensures.front c.split_after_name-first.ensures.after_front
    (ap has_name_length (sym c.text.ensures) ∙ sym c.is_of_name_length.ensures ∙ c.if-not-is_of_name_length.false) (sym c.is_name_ended.ensures ∙ c.if-not-is_name_ended.false)
