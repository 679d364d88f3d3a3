use Rattle.std.proofs.Common.{◌∙◌, refl, sym, arith, length}
use Rattle.net_graph.specs.Groups.{items_at}
use Rattle.net_graph.specs.NetLaws.{found_at_place, nothing_at_place}
use Rattle.net_graph.specs.NetParts.{net_of}
use Rattle.net_graph.specs.Nets.{IsOriginOf, is_origin_at}
use Rattle.net_graph.specs.Views.{pure_origin}
use Rattle.net_graph.proofs.FiledLemmas.{origins_counted, origin_read}
use Rattle.net_graph.proofs.GroupLemmas.{item_at-stand}
use Rattle.net_graph.proofs.NetLemmas.{all_got, place_of_origin}
use Rattle.net_graph.proofs.net.Net.origin_at.Goals as goal

pub index-requires : goal.index-requires
index-requires c =
    let inside = c.self.inside in
    let count = origins_counted inside.homes inside.origin_spots.items c.self.invariant.filed.origin_spots in
    let place = sym (place_of_origin (net_of inside) inside.known.joins inside.known.origin_pairs c.args.dest.0 c.args.node.0 c.self.invariant.known) ∙ sym c.in-Some.ensures.place in
    let found = found_at_place (is_origin_at c.args.dest.0 c.args.node.0) (net_of inside).origins c.in-Some.place place in
    omega (arith, count, found.1, inside.origin_spots.ok.0)

pub item-requires : goal.item-requires
item-requires c =
    let inside = c.self.inside in
    let count = origins_counted inside.homes inside.origin_spots.items c.self.invariant.filed.origin_spots in
    let place = sym (place_of_origin (net_of inside) inside.known.joins inside.known.origin_pairs c.args.dest.0 c.args.node.0 c.self.invariant.known) ∙ sym c.in-Some.ensures.place in
    let found = found_at_place (is_origin_at c.args.dest.0 c.args.node.0) (net_of inside).origins c.in-Some.place place in
    let at = item_at-stand inside.homes inside.origin_spots.items (items_at inside.homes inside.origin_spots.items) c.in-Some.place c.index.result.now c.self.invariant.filed.origin_spots (omega (arith, count, found.1)) c.index.ensures in
    rw at.1 refl

pub returns-in-Some-clause-origin : goal.returns-in-Some-clause-origin
returns-in-Some-clause-origin c =
    let inside = c.self.inside in
    let count = origins_counted inside.homes inside.origin_spots.items c.self.invariant.filed.origin_spots in
    let place = sym (place_of_origin (net_of inside) inside.known.joins inside.known.origin_pairs c.args.dest.0 c.args.node.0 c.self.invariant.known) ∙ sym c.in-Some.ensures.place in
    let found = found_at_place (is_origin_at c.args.dest.0 c.args.node.0) (net_of inside).origins c.in-Some.place place in
    let read = origin_read inside.homes inside.origin_spots.items c.in-Some.place c.index.result.now c.item.result.now c.self.invariant.filed.origin_spots (omega (arith, count, found.1)) c.index.ensures c.item.ensures in
    rw (← c.self.view_is) (sym (found.0 ∙ read))

pub returns-in-Some-clause-within : goal.returns-in-Some-clause-within
returns-in-Some-clause-within c =
    let inside = c.self.inside in
    let net = net_of inside in
    let count = origins_counted inside.homes inside.origin_spots.items c.self.invariant.filed.origin_spots in
    let place = sym (place_of_origin (net_of inside) inside.known.joins inside.known.origin_pairs c.args.dest.0 c.args.node.0 c.self.invariant.known) ∙ sym c.in-Some.ensures.place in
    let found = found_at_place (is_origin_at c.args.dest.0 c.args.node.0) (net_of inside).origins c.in-Some.place place in
    let read = origin_read inside.homes inside.origin_spots.items c.in-Some.place c.index.result.now c.item.result.now c.self.invariant.filed.origin_spots (omega (arith, count, found.1)) c.index.ensures c.item.ensures in
    rw (← c.self.view_is) (all_got (IsOriginOf net.alg (length net.nodes) (length net.dests)) net.origins c.in-Some.place (pure_origin c.item.result.now) c.self.invariant.known.is_net.origins_in read)

pub returns-in-None-clause-origin : goal.returns-in-None-clause-origin
returns-in-None-clause-origin c =
    let inside = c.self.inside in
    let place = sym (place_of_origin (net_of inside) inside.known.joins inside.known.origin_pairs c.args.dest.0 c.args.node.0 c.self.invariant.known) ∙ sym c.in-None.ensures.place in
    rw (← c.self.view_is) (sym (nothing_at_place (is_origin_at c.args.dest.0 c.args.node.0) (net_of inside).origins place))
