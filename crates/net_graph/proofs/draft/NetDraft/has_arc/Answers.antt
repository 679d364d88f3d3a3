use Rattle.std.proofs.Common.{◌∙◌}
use Rattle.net_graph.proofs.draft.NetDraft.has_arc.Goals as goal

pub returns-clause-there : goal.returns-clause-there
returns-clause-there c = rw (← c.self.view_is) (c.contains.ensures ∙ c.self.invariant.joins c.args.tail.0 c.args.head.0)
