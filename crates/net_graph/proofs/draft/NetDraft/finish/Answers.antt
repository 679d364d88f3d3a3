use Rattle.std.proofs.Common.{◌∙◌, length, map}
use Rattle.std.proofs.lemmas.List.{length-map}
use Rattle.alg_model.specs.Views.{pure_label}
use Rattle.net_graph.proofs.GroupLemmas.{items_at-stand}
use Rattle.net_graph.proofs.FiledLemmas.{heads_in, tails_in, dests_in, filed_known, filed_net}
use Rattle.net_graph.proofs.draft.NetDraft.finish.Goals as goal

pub file_lines-requires-clause-tails : goal.file_lines-requires-clause-tails
file_lines-requires-clause-tails c =
    let arcs = c.into_parts-labels.result in
    rw c.count.ensures (tails_in c.self.inside.known.alg (length c.self.inside.known.nodes) (map pure_label arcs.0.items) arcs.1.items (rw c.into_parts-labels.ensures.arcs c.self.invariant.is_net.arcs_in))

pub file_lines-requires-clause-heads : goal.file_lines-requires-clause-heads
file_lines-requires-clause-heads c =
    let arcs = c.into_parts-labels.result in
    rw c.count.ensures (heads_in c.self.inside.known.alg (length c.self.inside.known.nodes) (map pure_label arcs.0.items) arcs.1.items (rw c.into_parts-labels.ensures.arcs c.self.invariant.is_net.arcs_in))

pub file_lines-requires-clause-dests : goal.file_lines-requires-clause-dests
file_lines-requires-clause-dests c = rw c.count-2.ensures (dests_in c.self.inside.known.alg (length c.self.inside.known.nodes) (length c.self.inside.known.dests) c.self.inside.origins.items c.self.invariant.is_net.origins_in)

pub from_parts-requires-clause-known : goal.from_parts-requires-clause-known
from_parts-requires-clause-known c =
    let known = c.self.inside.known in
    let arcs = c.into_parts-labels.result in
    let lines = c.in_ok-lines.lines in
    filed_known known.alg known.nodes known.dests (map pure_label arcs.0.items) arcs.1.items c.self.inside.origins.items
    lines.out.groups lines.out.spots.items lines.homes.groups lines.homes.spots.items known.joins known.origin_pairs
    c.in_ok-lines.ensures.out.stand c.in_ok-lines.ensures.homes.stand (rw c.into_parts-labels.ensures.arcs c.self.invariant)

pub from_parts-requires-clause-filed : goal.from_parts-requires-clause-filed
from_parts-requires-clause-filed c =
    let known = c.self.inside.known in
    let arcs = c.into_parts-labels.result in
    let lines = c.in_ok-lines.lines in
    let reported = c.in_ok-lines.ensures in
    filed_net known.alg known.nodes known.dests (map pure_label arcs.0.items) arcs.1.items c.self.inside.origins.items
    lines.out.groups lines.out.spots.items lines.heard lines.homes.groups lines.homes.spots.items
    (rw (length-map arcs.0.items pure_label) c.into_parts-labels.ensures.labels)
    (reported.out.count ∙ c.count.ensures) reported.out.filed reported.out.stand
    (reported.heard.count ∙ c.count.ensures) reported.heard.listed
    (reported.homes.count ∙ c.count-2.ensures) reported.homes.filed reported.homes.stand

pub returns : goal.returns
returns c =
    let lines = c.in_ok-lines.lines in
    let arcs = items_at-stand lines.out.groups lines.out.spots.items c.into_parts-labels.result.1.items c.in_ok-lines.ensures.out.stand in
    let origins = items_at-stand lines.homes.groups lines.homes.spots.items c.self.inside.origins.items c.in_ok-lines.ensures.homes.stand in
    (rw (arcs, origins, c.into_parts-labels.ensures.arcs) at c.from_parts.ensures) ∙ c.self.view_is
