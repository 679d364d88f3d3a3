use Rattle.std.proofs.Common.{◌∙◌}
use Rattle.topology_file.proofs.QuickForms.{said_keyed}
use Rattle.topology_file.proofs.quick_forms.split_said.Goals as goal

pub keyed-requires : goal.keyed-requires
keyed-requires c =
    said_keyed c.args.text.now c.split_at.result.0.now c.said_front-len.result.1 (c.split_at.ensures.front ∙ c.said_front-len.ensures.front) c.said_front-len.ensures.key c.said_front-len.ensures.bytes
