use Rattle.std.proofs.Common.{◌≡◌, ℕ, ◌≤◌, ◌<◌, Some, length, slice_get, arith, subst, sym, ◌∙◌}
use Rattle.std.proofs.lemmas.Option.{slice_get_within}
use Rattle.meta_base.specs.declared.ids.ArcId.{ArcId}
use Rattle.net_graph.specs.Views.{pure_arc}
use Rattle.path_vector.specs.Columns.{HasEntries}
use Rattle.path_vector.specs.Items.{item_there}
use Rattle.path_vector.specs.Known.{heard_by}
use Rattle.path_vector.specs.Node.{heard_before}
use Rattle.path_vector.proofs.Carrying.{all_heard, entries_before, entries_there, heard_so_far, id_within, next_stands, none_joins, nothing_joins, one_more, still_neighbours}
use Rattle.path_vector.proofs.neighbours.carried_neighbours.Goals as goal
use Rattle.path_vector.proofs.neighbours.carried_neighbours.Goals.{in-Some, in_default}

pub arc-arc-requires : goal.arc-arc-requires
arc-arc-requires g c =
    let A = g.A.Algebra in
    let s = c.args.algebra.now in
    let before = c.args.before.now in
    let net = c.args.net.now in
    let k = c.loop-at.at in
    let x = item_there c.args.old k (rw c.count-at-end.ensures at c.loop-at-test.true) in
    let here : slice_get c.loop-at.old k ≡ Some x.0 = c.loop-at.invariant.left k (omega arith) ∙ x.1 in
    let arc_is = (c.neighbour.ensures x.0 here).0 in
    let stands = next_stands (A.stands_for s) (A.is_sig s) (A.sig_value s) before net c.requires.before c.in_ok-neighbours.ensures.net c.requires.net c.args.node.0 c.args.old k x.0 c.requires.old x.1 in
    subst (λ (z : ArcId). z.0 < length before.arcs) (sym arc_is) (slice_get_within before.arcs x.0.arc.0 _ stands)

pub place_of-place-requires : goal.place_of-place-requires
place_of-place-requires g c =
    let A = g.A.Algebra in
    let s = c.args.algebra.now in
    let before = c.args.before.now in
    let net = c.args.net.now in
    let k = c.loop-at.at in
    let x = item_there c.args.old k (rw c.count-at-end.ensures at c.loop-at-test.true) in
    let here : slice_get c.loop-at.old k ≡ Some x.0 = c.loop-at.invariant.left k (omega arith) ∙ x.1 in
    let arc_is = (c.neighbour.ensures x.0 here).0 in
    let stands : slice_get before.arcs x.0.arc.0 ≡ Some (pure_arc c.arc-arc.result) = subst (λ (z : ArcId). slice_get before.arcs z.0 ≡ Some (pure_arc c.arc-arc.result)) arc_is c.arc-arc.ensures.arc in
    id_within (A.stands_for s) (A.is_sig s) (A.sig_value s) before net c.requires.before c.in_ok-neighbours.ensures.net c.requires.net c.args.node.0 c.args.old k x.0 c.requires.old x.1 (pure_arc c.arc-arc.result) c.in-Some.id.0 c.in-Some.ensures

pub hear_all_at-requires-clause-here : goal.hear_all_at-requires-clause-here
hear_all_at-requires-clause-here g c =
    let A = g.A.Algebra in
    let s = c.args.algebra.now in
    let before = c.args.before.now in
    let net = c.args.net.now in
    let k = c.loop-at.at in
    let x = item_there c.args.old k (rw c.count-at-end.ensures at c.loop-at-test.true) in
    let here : slice_get c.loop-at.old k ≡ Some x.0 = c.loop-at.invariant.left k (omega arith) ∙ x.1 in
    let arc_is = (c.neighbour.ensures x.0 here).0 in
    let stands : slice_get before.arcs x.0.arc.0 ≡ Some (pure_arc c.arc-arc.result) = subst (λ (z : ArcId). slice_get before.arcs z.0 ≡ Some (pure_arc c.arc-arc.result)) arc_is c.arc-arc.ensures.arc in
    subst (λ z. HasEntries c.place_of-place.result z c.loop-at.neighbours) (sym c.dest_count-dests.ensures.count)
    (entries_there (A.stands_for s) (A.is_sig s) (A.sig_value s) before net c.requires.before c.in_ok-neighbours.ensures.net c.requires.net c.args.node.0 c.args.old k x.0 c.requires.old x.1
    (pure_arc c.arc-arc.result) stands c.in-Some.id.0 c.place_of-place.result c.in-Some.ensures c.place_of-place.ensures c.loop-at.neighbours c.loop-at.invariant.neighbours)

pub hear_all_at-requires-clause-there : goal.hear_all_at-requires-clause-there
hear_all_at-requires-clause-there g c =
    let A = g.A.Algebra in
    let s = c.args.algebra.now in
    let before = c.args.before.now in
    let net = c.args.net.now in
    let k = c.loop-at.at in
    let x = item_there c.args.old k (rw c.count-at-end.ensures at c.loop-at-test.true) in
    let here : slice_get c.loop-at.old k ≡ Some x.0 = c.loop-at.invariant.left k (omega arith) ∙ x.1 in
    let arc_is = (c.neighbour.ensures x.0 here).0 in
    (x.0, here, entries_before (A.stands_for s) (A.is_sig s) (A.sig_value s) before net c.requires.before c.in_ok-neighbours.ensures.net c.requires.net c.args.node.0 c.args.old k x.0 c.requires.old x.1 ∙ sym c.dest_count-dests.ensures.count)

pub loop-at-preserved : goal.loop-at-preserved
loop-at-preserved g c =
    let A = g.A.Algebra in
    let s = c.args.algebra.now in
    let before = c.args.before.now in
    let net = c.args.net.now in
    let k = c.loop-at.at in
    let x = item_there c.args.old k (rw c.count-at-end.ensures at c.loop-at-test.true) in
    let here : slice_get c.loop-at.old k ≡ Some x.0 = c.loop-at.invariant.left k (omega arith) ∙ x.1 in
    let arc_is = (c.neighbour.ensures x.0 here).0 in
    let stands : slice_get before.arcs x.0.arc.0 ≡ Some (pure_arc c.arc-arc.result) = subst (λ (z : ArcId). slice_get before.arcs z.0 ≡ Some (pure_arc c.arc-arc.result)) arc_is c.arc-arc.ensures.arc in
    let value = A.sig_value s in
    elim c.match-arc_between.branch [
      | in-Some w ↦
          let heard = heard_so_far (A.stands_for s) (A.is_sig s) (A.sig_value s) before net c.requires.before c.in_ok-neighbours.ensures.net c.requires.net c.args.node.0 c.args.old k x.0 c.requires.old x.1
          (pure_arc c.arc-arc.result) stands w.in-Some.id.0 w.place_of-place.result w.in-Some.ensures w.place_of-place.ensures c.loop-at.neighbours c.loop-at.invariant.neighbours w.hear_all_at.new.neighbours (λ n e. w.hear_all_at.ensures.heard n x.0 e here) c.loop-at.invariant.heard in
          rw (w.neighbours-is, w.old-is) record {
            neighbours = still_neighbours (A.stands_for s) (A.is_sig s) (A.sig_value s) before net c.requires.before c.in_ok-neighbours.ensures.net c.requires.net c.args.node.0 c.args.old k x.0 c.requires.old x.1
                (pure_arc c.arc-arc.result) stands w.in-Some.id.0 w.place_of-place.result w.in-Some.ensures w.place_of-place.ensures c.loop-at.neighbours c.loop-at.invariant.neighbours w.hear_all_at.new.neighbours (λ n e. w.hear_all_at.ensures.heard n x.0 e here);
            heard = one_more (λ z. (a dest : ℕ) → heard_by value w.hear_all_at.new.neighbours a dest ≡ heard_before before net (heard_by value z) a dest) c.args.old k x.0 x.1 heard;
            left = λ j l. w.hear_all_at.ensures.after j (omega arith) ∙ c.loop-at.invariant.left j (omega arith);
            many = w.hear_all_at.ensures.count ∙ c.loop-at.invariant.many;
          }
      | in_default w ↦
          let none = nothing_joins (A.stands_for s) (A.is_sig s) (A.sig_value s) before net c.requires.before c.in_ok-neighbours.ensures.net c.requires.net c.args.node.0 c.args.old k x.0 c.requires.old x.1 (pure_arc c.arc-arc.result) stands w.in_default.ensures in
          let heard = none_joins (A.stands_for s) (A.is_sig s) (A.sig_value s) before net c.requires.before c.in_ok-neighbours.ensures.net c.requires.net c.args.node.0 c.args.old k x.0 c.requires.old x.1 (heard_by value c.loop-at.neighbours) none c.loop-at.invariant.heard in
          rw (w.neighbours-is, w.old-is) record {
            neighbours = c.loop-at.invariant.neighbours;
            heard = one_more (λ z. (a dest : ℕ) → heard_by value c.loop-at.neighbours a dest ≡ heard_before before net (heard_by value z) a dest) c.args.old k x.0 x.1 heard;
            left = λ j l. c.loop-at.invariant.left j (omega arith);
            many = c.loop-at.invariant.many;
          }
    ]

pub returns-clause-heard : goal.returns-clause-heard
returns-clause-heard g c =
    let value = g.A.Algebra.sig_value c.args.algebra.now in
    let past : length c.args.old ≤ c.loop-at.at = rw c.count-at-end.ensures at c.loop-at-test.false in
    all_heard value c.args.before.now c.args.net.now c.args.old c.loop-at.at c.loop-at.neighbours past c.loop-at.invariant.heard
