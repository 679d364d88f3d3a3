use Rattle.std.proofs.Common.{◌∙◌, sym}
use Rattle.topology_file.proofs.QuickForms.{colon_then}
use Rattle.topology_file.proofs.quick_forms.after_colon.Goals as goal

pub returns : goal.returns
returns c =
    rw c.after_one.ensures
    (colon_then c.args.text.now c.after_blanks-rest.result.now c.after_blanks-rest.ensures (sym c.begins_with.ensures ∙ c.if-not-begins_with.false))
