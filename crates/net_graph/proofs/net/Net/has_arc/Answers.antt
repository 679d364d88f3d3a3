use Rattle.std.proofs.Common.{◌∙◌}
use Rattle.net_graph.proofs.net.Net.has_arc.Goals as goal

pub returns : goal.returns
returns c = rw (← c.self.view_is) (c.contains.ensures ∙ c.self.invariant.known.joins c.args.tail.0 c.args.head.0)
