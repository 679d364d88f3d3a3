use Rattle.net_graph.proofs.NameTexts.{name_is_text}
use Rattle.net_graph.proofs.names.as_text.Goals as goal

pub unreachable-requires : goal.unreachable-requires
unreachable-requires c = c.in-Err.ensures.cases.0 (name_is_text c.args.name.now c.requires)
