use Rattle.std.proofs.Common.{refl, arith, length, map}
use Rattle.std.proofs.lemmas.List.{length-map}
use Rattle.alg_model.specs.Views.{pure_label}
use Rattle.net_graph.specs.Nets.{IsArcOf}
use Rattle.net_graph.specs.NetParts.{net_of}
use Rattle.net_graph.specs.Views.{pure_arc}
use Rattle.net_graph.proofs.NetLemmas.{all_got}
use Rattle.net_graph.specs.Groups.{items_at}
use Rattle.net_graph.proofs.GroupLemmas.{item_at-stand}
use Rattle.net_graph.proofs.FiledLemmas.{arcs_counted, arc_read, label_read}
use Rattle.net_graph.proofs.net.Net.arc.Goals as goal

pub index-requires : goal.index-requires
index-requires c =
    let count = arcs_counted (map pure_label c.self.inside.labels.items) c.self.inside.out c.self.inside.arc_spots.items c.self.invariant.filed.arc_spots in
    let within = rw (← c.self.view_is) at c.requires in
    omega (arith, count, within, c.self.inside.arc_spots.ok.0)

pub item-arc-requires : goal.item-arc-requires
item-arc-requires c =
    let count = arcs_counted (map pure_label c.self.inside.labels.items) c.self.inside.out c.self.inside.arc_spots.items c.self.invariant.filed.arc_spots in
    let within = rw (← c.self.view_is, ← count) at c.requires in
    let at = item_at-stand c.self.inside.out c.self.inside.arc_spots.items (items_at c.self.inside.out c.self.inside.arc_spots.items) c.args.id.0 c.index.result.now c.self.invariant.filed.arc_spots within c.index.ensures in
    rw at.1 refl

pub with_label-requires : goal.with_label-requires
with_label-requires c =
    let within = label_read (length (map pure_label c.self.inside.labels.items)) c.self.inside.out c.index.result.now c.item-arc.result.now c.self.invariant.filed.labelled c.item-arc.ensures in
    rw c.deref.ensures.value (rw (length-map c.self.inside.labels.items pure_label) at within)

pub returns-clause-arc : goal.returns-clause-arc
returns-clause-arc c =
    let count = arcs_counted (map pure_label c.self.inside.labels.items) c.self.inside.out c.self.inside.arc_spots.items c.self.invariant.filed.arc_spots in
    let within = rw (← c.self.view_is, ← count) at c.requires in
    rw (← c.self.view_is, c.with_label.ensures, c.deref.ensures.value) (arc_read (map pure_label c.self.inside.labels.items) c.self.inside.out c.self.inside.arc_spots.items c.args.id.0 c.index.result.now c.item-arc.result.now c.self.invariant.filed.arc_spots within c.index.ensures c.item-arc.ensures)

pub returns-clause-within : goal.returns-clause-within
returns-clause-within c =
    let net = net_of c.self.inside in
    let count = arcs_counted (map pure_label c.self.inside.labels.items) c.self.inside.out c.self.inside.arc_spots.items c.self.invariant.filed.arc_spots in
    let within = rw (← c.self.view_is, ← count) at c.requires in
    let read = arc_read (map pure_label c.self.inside.labels.items) c.self.inside.out c.self.inside.arc_spots.items c.args.id.0 c.index.result.now c.item-arc.result.now c.self.invariant.filed.arc_spots within c.index.ensures c.item-arc.ensures in
    rw (← c.self.view_is) (all_got (IsArcOf net.alg (length net.nodes)) net.arcs c.args.id.0 (pure_arc c.with_label.result) c.self.invariant.known.is_net.arcs_in (rw (c.with_label.ensures, c.deref.ensures.value) read))
