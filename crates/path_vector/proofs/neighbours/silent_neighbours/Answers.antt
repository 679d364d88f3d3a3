use Rattle.std.proofs.Common.{◌≡◌, ◌≤◌, ℕ, length, None, arith, suc, refl, subst, sym, take, ◌+◌, ◌++◌, ◌∷◌, []}
use Rattle.net_graph.specs.Nets.{arcs_from}
use Rattle.net_graph.specs.Views.{pure_arc}
use Rattle.path_vector.specs.declared.neighbour.Neighbour.{Neighbour}
use Rattle.path_vector.specs.Columns.{AreSilent}
use Rattle.path_vector.specs.Known.{heard_by, AreNeighbours}
use Rattle.path_vector.proofs.Carrying.{small_label}
use Rattle.path_vector.proofs.Choices.{take_next}
use Rattle.path_vector.proofs.Silence.{AreAt, at_end, at_more, ok_then, silent_are, silent_nothing, store_fits}
use Rattle.path_vector.proofs.neighbours.silent_neighbours.Goals as goal

pub lab_of-requires-clause-small : goal.lab_of-requires-clause-small
lab_of-requires-clause-small g c =
    let net = c.args.net.now in
    small_label net c.args.node.0 c.loop-place.place (pure_arc c.get-arc.result) c.dest_count-dests.ensures.net (rw c.out_arcs-arcs.ensures.arcs at c.get-arc.ensures)

pub loop-place-preserved : goal.loop-place-preserved
loop-place-preserved g c =
    let stands_for = g.A.Algebra.stands_for c.args.algebra.now in
    let all = arcs_from c.args.net.now c.args.node.0 in
    let k = c.loop-place.place in
    let arc = c.get-arc.result in
    let there = rw c.out_arcs-arcs.ensures.arcs at c.get-arc.ensures in
    let old = c.loop-place.neighbours.items in
    let new : Neighbour _ = record { arc = arc.id; label = c.in_ok-lab_of.field-0 } in
    let next : suc k ≡ k + 1 = omega arith in
    subst (λ z. AreAt stands_for (take (k + 1) all) z) (sym c.in_ok-push.ensures.items)
    (subst (λ z. AreAt stands_for z (old ++ new ∷ [])) (sym (subst (λ m. take m all ≡ take k all ++ pure_arc arc ∷ []) next (take_next all k (pure_arc arc) there)))
    (at_more stands_for (take k all) old (pure_arc arc) new c.loop-place.invariant refl c.in_ok-lab_of.ensures))

pub nothing-requires : goal.nothing-requires
nothing-requires g c =
    let net = c.args.net.now in
    let all = arcs_from net c.args.node.0 in
    let ended : length c.out_arcs-arcs.result ≤ c.loop-place.place = omega (arith, c.loop-place-test.false, c.count-place-end.ensures) in
    let past : length all ≤ c.loop-place.place = rw c.out_arcs-arcs.ensures.arcs at ended in
    let are = at_end (g.A.Algebra.stands_for c.args.algebra.now) all c.loop-place.place past c.loop-place.neighbours.items c.loop-place.invariant in
    store_fits (g.A.Algebra.stands_for c.args.algebra.now) net c.args.node.0 c.dest_count-dests.result c.loop-place.neighbours.items c.dest_count-dests.ensures.net c.dest_count-dests.ensures.few are

pub returns-clause-neighbours : goal.returns-clause-neighbours
returns-clause-neighbours g c =
    let A = g.A.Algebra in
    let s = c.args.algebra.now in
    let net = c.args.net.now in
    let ns = c.loop-place.neighbours.items in
    let ended : length c.out_arcs-arcs.result ≤ c.loop-place.place = omega (arith, c.loop-place-test.false, c.count-place-end.ensures) in
    let past : length (arcs_from net c.args.node.0) ≤ c.loop-place.place = rw c.out_arcs-arcs.ensures.arcs at ended in
    let are = at_end (A.stands_for s) (arcs_from net c.args.node.0) c.loop-place.place past ns c.loop-place.invariant in
    ok_then (AreSilent c.dest_count-dests.result ns) (AreNeighbours (A.stands_for s) (A.is_sig s) (A.sig_value s) net (arcs_from net c.args.node.0)) c.nothing.result c.nothing.ensures
    (λ ms silent. silent_are (A.stands_for s) (A.is_sig s) (A.sig_value s) net (arcs_from net c.args.node.0) ns ms are (subst (λ z. AreSilent z ns ms) c.dest_count-dests.ensures.count silent))

pub returns-clause-silent : goal.returns-clause-silent
returns-clause-silent g c =
    let value = g.A.Algebra.sig_value c.args.algebra.now in
    let ns = c.loop-place.neighbours.items in
    ok_then (AreSilent c.dest_count-dests.result ns) (λ ms. (a dest : ℕ) → heard_by value ms a dest ≡ None) c.nothing.result c.nothing.ensures (silent_nothing value c.dest_count-dests.result ns)
