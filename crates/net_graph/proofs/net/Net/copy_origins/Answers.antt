use Rattle.std.proofs.Common.{ap, map, length, refl, sym, arith, ◌∙◌}
use Rattle.std.proofs.lemmas.List.{take_all}
use Rattle.net_graph.specs.Groups.{items_at}
use Rattle.net_graph.specs.Views.{pure_origin}
use Rattle.net_graph.proofs.GroupLemmas.{length-stand}
use Rattle.net_graph.proofs.CopyLemmas.{images_more, item_stands}
use Rattle.net_graph.proofs.net.Net.copy_origins.Goals as goal

pub item-requires : goal.item-requires
item-requires c =
    let at = item_stands c.self.inside.homes c.self.inside.origin_spots.items c.deref-spot-items.result.now c.loop-spot.spot-index (record { group = 0; place = 0 }) c.self.invariant.filed.origin_spots c.deref-spot-items.ensures.value c.loop-spot-test.true in
    rw at.1 refl

pub loop-spot-preserved : goal.loop-spot-preserved
loop-spot-preserved c =
    let inside = c.self.inside in
    let at = item_stands inside.homes inside.origin_spots.items c.deref-spot-items.result.now c.loop-spot.spot-index (record { group = 0; place = 0 }) c.self.invariant.filed.origin_spots c.deref-spot-items.ensures.value c.loop-spot-test.true in
    images_more pure_origin pure_origin c.loop-spot.origins.items c.push.new.self.items c.in_ok-copy.field-0 (items_at inside.homes inside.origin_spots.items) c.loop-spot.spot-index c.item.result.now
    (at.2 ∙ sym at.1 ∙ c.item.ensures) c.in_ok-push.ensures.items c.in_ok-copy.ensures c.loop-spot.invariant

pub returns : goal.returns
returns c =
    let inside = c.self.inside in
    let origins = items_at inside.homes inside.origin_spots.items in
    let count = length-stand inside.homes inside.origin_spots.items origins c.self.invariant.filed.origin_spots in
    let read = ap length c.deref-spot-items.ensures.value in
    let whole = take_all c.loop-spot.spot-index origins (omega (arith, count, read, c.loop-spot-test.false)) in
    rw (← c.self.view_is) (c.loop-spot.invariant ∙ ap (map pure_origin) whole)
