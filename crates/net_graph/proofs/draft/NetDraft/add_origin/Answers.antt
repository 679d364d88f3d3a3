use Rattle.net_graph.specs.Parts.{net_from}
use Rattle.net_graph.proofs.NetLemmas.{no_origin_pair}
use Rattle.net_graph.proofs.FiledLemmas.{draft_origin}
use Rattle.net_graph.proofs.draft.NetDraft.add_origin.Goals as goal

pub add_origin-requires-clause-absent : goal.add_origin-requires-clause-absent
add_origin-requires-clause-absent c = no_origin_pair (net_from c.self.inside.known.alg c.self.inside.known.nodes c.self.inside.known.dests c.self.inside.arcs c.self.inside.origins.items) c.self.inside.known.joins c.self.inside.known.origin_pairs c.args.dest.now c.args.node.0 c.self.invariant (rw (← c.self.view_is) at c.requires.absent)

pub invariant_of-self-2 : goal.invariant_of-self-2
invariant_of-self-2 c = let pushed = rw c.unwrap.ensures at c.push.ensures.items in
    rw c.in_ok-dest.ensures.ok (draft_origin c.self.inside.known.alg c.self.inside.known.nodes c.self.inside.known.dests c.self.inside.arcs c.self.inside.origins.items c.reserve.new.self.items c.push.new.self.items c.self.inside.known.joins c.self.inside.known.origin_pairs c.args.dest.now
    (record { node = c.args.node; dest = c.in_ok-dest.dest; value = c.args.value }) c.self.invariant c.requires.name (rw (← c.self.view_is) at c.requires.node) (rw (← c.self.view_is) at c.requires.absent) (rw (← c.self.view_is) at c.requires.value) (rw (← c.self.view_is) at c.requires.small)
    (rw (← c.self.view_is) at c.requires.room) c.in_ok-reserve.ensures.items pushed c.in_ok-dest.ensures.number)
