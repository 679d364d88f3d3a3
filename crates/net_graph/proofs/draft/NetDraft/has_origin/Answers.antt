use Rattle.std.proofs.Common.{◌∙◌}
use Rattle.net_graph.specs.Parts.{net_from}
use Rattle.net_graph.proofs.NetLemmas.{pair_of_origin}
use Rattle.net_graph.proofs.draft.NetDraft.has_origin.Goals as goal

pub returns : goal.returns
returns c = rw (← c.self.view_is) (c.contains.ensures ∙ pair_of_origin (net_from c.self.inside.known.alg c.self.inside.known.nodes c.self.inside.known.dests c.self.inside.arcs c.self.inside.origins.items) c.self.inside.known.joins c.self.inside.known.origin_pairs c.args.dest.0 c.args.node.0 c.self.invariant)
