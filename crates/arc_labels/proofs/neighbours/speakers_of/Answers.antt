use Rattle.std.proofs.Common.{◌≡◌, ◌==◌, length, refl, arith}
use Rattle.net_graph.specs.Nets.{PureArc, arcs_from}
use Rattle.net_graph.specs.Views.{pure_arc}
use Rattle.arc_labels.specs.declared.neighbours.Neighbour.{Neighbour}
use Rattle.arc_labels.specs.Neighbours.{IsNeighbour, head_of}
use Rattle.arc_labels.specs.Places.{arc_there}
use Rattle.arc_labels.proofs.Seen.{lent_stands, one_more, was_made}
use Rattle.arc_labels.proofs.neighbours.speakers_of.Goals as goal

pub form-requires : goal.form-requires
form-requires g c =
    let net = c.args.net.now in
    let a = pure_arc c.get-arc.result in
    let at_place = rw c.out_arcs-arcs.ensures.arcs at c.get-arc.ensures in
    let there = arc_there net c.requires.net (λ (b : PureArc). b.tail == c.args.node.0) c.loop-place.place a at_place in
    was_made (g.A.Algebra.stands_for c.args._algebra.now) c.args.forms.now a.id a.label (c.requires.forms a.id a there)

pub loop-place-preserved : goal.loop-place-preserved
loop-place-preserved g c =
    let net = c.args.net.now in
    let stands_for = g.A.Algebra.stands_for c.args._algebra.now in
    let arcs = arcs_from net c.args.node.0 in
    let done = c.loop-place.speakers.items in
    let arc = pure_arc c.get-arc.result in
    let at_place = rw c.out_arcs-arcs.ensures.arcs at c.get-arc.ensures in
    let there = arc_there net c.requires.net (λ (b : PureArc). b.tail == c.args.node.0) c.loop-place.place arc at_place in
    let place : c.loop-place.place ≡ length done = let e = c.loop-place.invariant.count in omega arith in
    let neighbour : Neighbour g.row.A-Lab.Denot = record { arc = c.get-arc.result.id; node = c.get-arc.result.head; label = c.form.result } in
    let is : IsNeighbour stands_for head_of arc neighbour =
    record { arc = refl; node = refl; label = lent_stands stands_for c.args.forms.now arc.id arc.label (c.requires.forms arc.id arc there) c.form.result.now c.form.ensures } in
    record {
      count = omega (arith, c.in_ok-push.ensures.len, c.loop-place.invariant.count);
      each = rw c.in_ok-push.ensures.items (one_more stands_for head_of arcs done neighbour arc (rw place at at_place) is c.loop-place.invariant.each);
    }

pub returns : goal.returns
returns g c =
    let all : c.loop-place.place ≡ length (arcs_from c.args.net.now c.args.node.0) =
    let e = c.loop-place-test.false in
    let f = rw c.out_arcs-arcs.ensures.arcs at c.count-place-end.ensures in
    let h = c.loop-place.auto.place-end in
    omega arith in
    rw c.from_vec.ensures record { count = omega (arith, all, c.loop-place.invariant.count); each = c.loop-place.invariant.each }
