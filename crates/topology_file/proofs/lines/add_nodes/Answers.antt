use Rattle.std.proofs.Common.{◌∙◌}
use Rattle.topology_file.proofs.NameLists.{names_none}
use Rattle.topology_file.proofs.lines.add_nodes.Goals as goal

pub returns-clause-ok : goal.returns-clause-ok
returns-clause-ok c = c.loop-name.invariant.names ∙ rw c.in_default.ensures.words (names_none c.loop-name.draft c.node_count.ensures.net)
