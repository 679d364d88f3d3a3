use Rattle.std.proofs.Common.{◌≡◌, ◌∙◌, List, ap, arith, length, map, refl, sym}
use Rattle.std.proofs.lemmas.List.{length-map, take_all}
use Rattle.alg_model.specs.Expressions.{PureLabel}
use Rattle.alg_model.specs.Views.{pure_label}
use Rattle.net_graph.specs.Groups.{items_at}
use Rattle.net_graph.specs.Kept.{kept_arc}
use Rattle.net_graph.proofs.CopyLemmas.{item_stands, take_got}
use Rattle.net_graph.proofs.FiledLemmas.{have_at}
use Rattle.net_graph.proofs.GroupLemmas.{length-stand}
use Rattle.net_graph.proofs.net.Net.copy_arcs.Goals as goal

pub item-requires : goal.item-requires
item-requires c =
    let at = item_stands c.self.inside.out c.self.inside.arc_spots.items c.deref-spot-items.result.now c.loop-spot.spot-index (record { group = 0; place = 0 }) c.self.invariant.filed.arc_spots c.deref-spot-items.ensures.value c.loop-spot-test.true in
    rw at.1 refl

pub loop-spot-preserved : goal.loop-spot-preserved
loop-spot-preserved c =
    let inside = c.self.inside in
    let at = item_stands inside.out inside.arc_spots.items c.deref-spot-items.result.now c.loop-spot.spot-index (record { group = 0; place = 0 }) c.self.invariant.filed.arc_spots c.deref-spot-items.ensures.value c.loop-spot-test.true in
    rw (c.in_ok-push.ensures.items, take_got (items_at inside.out inside.arc_spots.items) c.loop-spot.spot-index c.item.result.now (at.2 ∙ sym at.1 ∙ c.item.ensures), c.loop-spot.invariant) refl

pub from_parts-requires : goal.from_parts-requires
from_parts-requires c =
    let inside = c.self.inside in
    let arcs = items_at inside.out inside.arc_spots.items in
    let count = length-stand inside.out inside.arc_spots.items arcs c.self.invariant.filed.arc_spots in
    let read = ap length c.deref-spot-items.ensures.value in
    let whole = take_all c.loop-spot.spot-index arcs (omega (arith, count, read, c.loop-spot-test.false)) in
    let labels : length c.in_ok-labels.labels.items ≡ length (map pure_label inside.labels.items) =
    sym (length-map c.in_ok-labels.labels.items pure_label) ∙ ap length c.in_ok-labels.ensures ∙ ap (λ labels. length (map pure_label labels)) c.deref.ensures.value in
    rw (c.loop-spot.invariant ∙ whole, labels) (have_at (length (map pure_label inside.labels.items)) inside.out inside.arc_spots.items arcs c.self.invariant.filed.arc_spots c.self.invariant.filed.labelled)

pub returns-clause-arcs : goal.returns-clause-arcs
returns-clause-arcs c =
    let inside = c.self.inside in
    let arcs = items_at inside.out inside.arc_spots.items in
    let count = length-stand inside.out inside.arc_spots.items arcs c.self.invariant.filed.arc_spots in
    let read = ap length c.deref-spot-items.ensures.value in
    let whole = take_all c.loop-spot.spot-index arcs (omega (arith, count, read, c.loop-spot-test.false)) in
    rw (← c.self.view_is)
    (c.from_parts.ensures ∙ ap (λ (labels : List PureLabel). map (kept_arc labels) c.loop-spot.arcs.items) (c.in_ok-labels.ensures ∙ ap (map pure_label) c.deref.ensures.value)
    ∙ ap (map (kept_arc (map pure_label inside.labels.items))) (c.loop-spot.invariant ∙ whole))
