use Rattle.std.proofs.Common.{◌≡◌, ◌≤◌, Some, length, slice_get, arith, refl, ap, ◌∙◌}
use Rattle.std.proofs.lemmas.Option.{slice_get_within}
use Rattle.net_graph.specs.Nets.{arcs_from}
use Rattle.net_graph.specs.Views.{pure_arc}
use Rattle.path_vector.specs.Items.{item_there}
use Rattle.path_vector.specs.Known.{Listened}
use Rattle.path_vector.proofs.Alike.{left_next, renewed_next}
use Rattle.path_vector.proofs.Hearings.{set_length}
use Rattle.path_vector.proofs.same_arcs.renewed.Goals as goal

pub put_at-requires : goal.put_at-requires
put_at-requires g c =
    let k = c.loop-place.place in
    let all = arcs_from c.args.net.now c.args.node.0 in
    let there = rw c.out_arcs-arcs.ensures.arcs at c.get.ensures in
    let within = slice_get_within all k (pure_arc c.get.result) there in
    let count = c.requires.count in
    let many = c.loop-place.invariant.count in
    omega (arith, within, count, many)

pub loop-place-preserved : goal.loop-place-preserved
loop-place-preserved g c =
    let k = c.loop-place.place in
    let all = arcs_from c.args.net.now c.args.node.0 in
    let old = c.args.neighbours in
    let ns = c.loop-place.neighbours in
    let is = c.loop-place.invariant in
    let arc = c.get.result in
    let there = rw c.out_arcs-arcs.ensures.arcs at c.get.ensures in
    let within = slice_get_within all k (pure_arc arc) there in
    let count = c.requires.count in
    let n = item_there old k (omega (arith, within, count)) in
    let here : slice_get ns k ≡ Some n.0 = is.left k (omega arith) ∙ n.1 in
    let now : Listened _ _ = record n.0 { arc = arc.id } in
    let put = c.put_at.ensures n.0 here in
    record {
      count = ap length put ∙ (set_length ns k now ∙ is.count);
      done = renewed_next all old ns c.put_at.new.self k (pure_arc arc) n.0 now there n.1 here put (record { arc = refl; label = refl; heard = refl }) is.done;
      left = left_next all old ns c.put_at.new.self k (pure_arc arc) n.0 now there n.1 here put (record { arc = refl; label = refl; heard = refl }) is.left;
    }

pub returns-clause-renewed : goal.returns-clause-renewed
returns-clause-renewed g c = record {
  count = c.loop-place.invariant.count;
  each = λ k a n m e f h.
      let ended : length c.out_arcs-arcs.result ≤ c.loop-place.place = omega (arith, c.loop-place-test.false, c.count-place-end.ensures) in
      let past : length (arcs_from c.args.net.now c.args.node.0) ≤ c.loop-place.place = rw c.out_arcs-arcs.ensures.arcs at ended in
      let within = slice_get_within (arcs_from c.args.net.now c.args.node.0) k a e in
      c.loop-place.invariant.done k a n m (omega (arith, past, within)) e f h;
}
