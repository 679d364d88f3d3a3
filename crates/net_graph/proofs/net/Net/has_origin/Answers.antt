use Rattle.std.proofs.Common.{◌∙◌}
use Rattle.net_graph.specs.NetParts.{net_of}
use Rattle.net_graph.proofs.NetLemmas.{pair_of_origin}
use Rattle.net_graph.proofs.net.Net.has_origin.Goals as goal

pub returns : goal.returns
returns c = rw (← c.self.view_is) (c.contains.ensures ∙ pair_of_origin (net_of c.self.inside) c.self.inside.known.joins c.self.inside.known.origin_pairs c.args.dest.0 c.args.node.0 c.self.invariant.known)
