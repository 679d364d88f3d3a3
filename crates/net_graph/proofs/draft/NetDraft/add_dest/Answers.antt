use Rattle.net_graph.specs.Parts.{net_from}
use Rattle.net_graph.proofs.NetLemmas.{known_dest}
use Rattle.net_graph.proofs.draft.NetDraft.add_dest.Goals as goal

pub invariant_of-self-2 : goal.invariant_of-self-2
invariant_of-self-2 c = rw c.in_ok-add.ensures.ok (known_dest (net_from c.self.inside.known.alg c.self.inside.known.nodes c.self.inside.known.dests c.self.inside.arcs c.self.inside.origins.items) c.self.inside.known.joins c.self.inside.known.origin_pairs c.args.name.now c.self.invariant c.requires.name (rw (← c.self.view_is) at c.requires.absent) (rw (← c.self.view_is) at c.requires.room))
