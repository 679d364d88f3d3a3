use Rattle.std.proofs.Common.{◌∙◌}
use Rattle.topology_file.proofs.QuickForms.{name_keyed}
use Rattle.topology_file.proofs.quick_forms.split_after_name.Goals as goal

pub keyed-requires : goal.keyed-requires
keyed-requires c =
    name_keyed c.args.text.now c.split_at.result.0.now c.name_front-len.result.1 (c.split_at.ensures.front ∙ c.name_front-len.ensures.front) c.name_front-len.ensures.key
