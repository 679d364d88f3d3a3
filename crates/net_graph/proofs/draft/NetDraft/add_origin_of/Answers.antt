use Rattle.std.proofs.Common.{◌∙◌}
use Rattle.net_graph.specs.Parts.{net_from}
use Rattle.net_graph.proofs.NetLemmas.{pair_of_origin}
use Rattle.net_graph.proofs.FiledLemmas.{draft_origin_of}
use Rattle.net_graph.proofs.draft.NetDraft.add_origin_of.Goals as goal

pub add-requires : goal.add-requires
add-requires c = pair_of_origin (net_from c.self.inside.known.alg c.self.inside.known.nodes c.self.inside.known.dests c.self.inside.arcs c.self.inside.origins.items) c.self.inside.known.joins c.self.inside.known.origin_pairs c.args.dest.0 c.args.node.0 c.self.invariant ∙ (rw (← c.self.view_is) at c.requires.absent)

pub invariant_of-self-2 : goal.invariant_of-self-2
invariant_of-self-2 c =
    let pushed = rw c.unwrap.ensures at c.push.ensures.items in
    rw c.in_ok-add.ensures.ok (draft_origin_of c.self.inside.known.alg c.self.inside.known.nodes c.self.inside.known.dests c.self.inside.arcs c.self.inside.origins.items c.reserve.new.self.items c.push.new.self.items c.self.inside.known.joins c.self.inside.known.origin_pairs
    (record { node = c.args.node; dest = c.args.dest; value = c.args.value }) c.self.invariant
    (rw (← c.self.view_is) at c.requires.dest) (rw (← c.self.view_is) at c.requires.node) (rw (← c.self.view_is) at c.requires.absent) (rw (← c.self.view_is) at c.requires.value) (rw (← c.self.view_is) at c.requires.small) c.in_ok-reserve.ensures.items pushed)
