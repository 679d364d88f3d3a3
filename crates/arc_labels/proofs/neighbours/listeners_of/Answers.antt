use Rattle.std.proofs.Common.{◌≡◌, ◌==◌, Some, get_or, length, map, slice_get, refl, ap, sym, subst, ◌∙◌, arith}
use Rattle.std.proofs.lemmas.List.{length-map}
use Rattle.std.proofs.lemmas.Option.{same_Some, slice_get-get_or}
use Rattle.meta_base.specs.declared.ids.ArcId.{ArcId}
use Rattle.net_graph.specs.Nets.{PureArc, arcs_to}
use Rattle.net_graph.specs.Views.{pure_arc}
use Rattle.arc_labels.specs.declared.neighbours.Neighbour.{Neighbour}
use Rattle.arc_labels.specs.Neighbours.{IsNeighbour, tail_of}
use Rattle.arc_labels.specs.Places.{by_id}
use Rattle.arc_labels.proofs.Seen.{lent_stands, one_more, was_made}
use Rattle.arc_labels.proofs.neighbours.listeners_of.Goals as goal

pub arc-requires : goal.arc-requires
arc-requires g c =
    let ids = c.listeners-ids.result.now in
    let m = c.loop-id.id-index in
    let id : ArcId = get_or ids m record { 0 = 0 } in
    (by_id c.args.net.now c.requires.net (λ (b : PureArc). b.head == c.args.node.0) ids m id c.listeners-ids.ensures (slice_get-get_or ids m record { 0 = 0 } c.loop-id-test.true)).within

pub form-requires : goal.form-requires
form-requires g c =
    let ids = c.listeners-ids.result.now in
    let m = c.loop-id.id-index in
    let id : ArcId = get_or ids m record { 0 = 0 } in
    let by = by_id c.args.net.now c.requires.net (λ (b : PureArc). b.head == c.args.node.0) ids m id c.listeners-ids.ensures (slice_get-get_or ids m record { 0 = 0 } c.loop-id-test.true) in
    was_made (g.A.Algebra.stands_for c.args._algebra.now) c.args.forms.now id.0 by.arc.label (c.requires.forms id.0 by.arc by.there)

pub loop-id-preserved : goal.loop-id-preserved
loop-id-preserved g c =
    let net = c.args.net.now in
    let stands_for = g.A.Algebra.stands_for c.args._algebra.now in
    let arcs = arcs_to net c.args.node.0 in
    let ids = c.listeners-ids.result.now in
    let m = c.loop-id.id-index in
    let id : ArcId = get_or ids m record { 0 = 0 } in
    let done = c.loop-id.listeners.items in
    let by = by_id net c.requires.net (λ (b : PureArc). b.head == c.args.node.0) ids m id c.listeners-ids.ensures (slice_get-get_or ids m record { 0 = 0 } c.loop-id-test.true) in
    let same : by.arc ≡ pure_arc c.arc.result = same_Some by.arc (pure_arc c.arc.result) (sym by.there ∙ c.arc.ensures.arc) in
    let place : m ≡ length done = let e = c.loop-id.invariant.count in omega arith in
    let neighbour : Neighbour g.row.A-Lab.Denot = record { arc = id; node = c.arc.result.tail; label = c.form.result } in
    let is : IsNeighbour stands_for tail_of by.arc neighbour =
    record { arc = sym by.number; node = ap (λ (a : PureArc). a.tail) (sym same); label = lent_stands stands_for c.args.forms.now id.0 by.arc.label (c.requires.forms id.0 by.arc by.there) c.form.result.now c.form.ensures } in
    record {
      count = omega (arith, c.in_ok-push.ensures.len, c.loop-id.invariant.count);
      each = rw c.in_ok-push.ensures.items (one_more stands_for tail_of arcs done neighbour by.arc (subst (λ x. slice_get arcs x ≡ Some by.arc) place by.at_place) is c.loop-id.invariant.each);
    }

pub returns : goal.returns
returns g c =
    let ids = c.listeners-ids.result.now in
    let heard = arcs_to c.args.net.now c.args.node.0 in
    let e : length (map (λ (d : ArcId). d.0) ids) ≡ length (map (λ (a : PureArc). a.id) heard) = rw c.listeners-ids.ensures refl in
    let f = length-map ids (λ (d : ArcId). d.0) in
    let h = length-map heard (λ (a : PureArc). a.id) in
    rw c.from_vec.ensures record { count = omega (arith, e, f, h, c.loop-id-test.false, c.loop-id.auto.id-index-end, c.loop-id.invariant.count); each = c.loop-id.invariant.each }
