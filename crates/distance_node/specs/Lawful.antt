-- The distance-vector kind is lawful. A lemma, so that proofs of other crates may cite it.
use Rattle.std.proofs.Common.{◌≡◌, ℕ, ◌≤◌, List, [], ◌∷◌, Bool, true, false, length, cond, is_some, Option, Some, refl, arith}
use Rattle.std.specs.List.{AllByRecursion, range_with_len}
use Rattle.std.proofs.lemmas.List.{length-append}
use Rattle.std.proofs.lemmas.List.FromFn.{length-range_with_len}
use Rattle.net_graph.specs.Nets.{PureNet, IsNet, arcs_to}
use Rattle.net_graph.specs.NetLaws.{few_dests}
use Rattle.node_core.specs.Numbers.{max_begun}
use Rattle.node_core.specs.Machine.{changed_at}
use Rattle.node_core.specs.Kinds.{IsLawful, IsSentBy, IsLater, on_arc, speaker}
use Rattle.node_core.specs.MachineLaws.{all_join, on_arc_join}
use Rattle.distance_node.specs.Node.{Hop, DvState, PureVector, value_of, own_hop, choice, fits_in, vector_of, reported_on, begun_of, all_begun, Begin, heard_with, same_reported, Step, distance}
use Rattle.distance_node.specs.Reported.{reported_few, reported_all, reported_by_speaker}

module _ (net : PureNet) (i : ℕ) where
  one_stamped : (dest : ℕ) → AllByRecursion (λ (q : ℕ × PureVector). q.1.stamp ≡ 0) (begun_of net i dest)
  one_stamped dest = by (is_some (own_hop net dest i))
    where
      by : (b : Bool) → AllByRecursion (λ (q : ℕ × PureVector). q.1.stamp ≡ 0) (cond b (reported_on (arcs_to net i) (vector_of dest (own_hop net dest i) 0)) [])
      by true = reported_all (λ m. m.stamp ≡ 0) (arcs_to net i) (vector_of dest (own_hop net dest i) 0) refl
      by false = tt

  begun_stamped : (dests : List ℕ) → AllByRecursion (λ (q : ℕ × PureVector). q.1.stamp ≡ 0) (all_begun net i dests)
  begun_stamped [] = tt
  begun_stamped (dest ∷ dests) = all_join (λ (q : ℕ × PureVector). q.1.stamp ≡ 0) (begun_of net i dest) (all_begun net i dests) (one_stamped dest) (begun_stamped dests)

  one_spoken : IsNet net → (dest : ℕ) → AllByRecursion (λ (q : ℕ × PureVector). speaker net q.0 ≡ Some i) (begun_of net i dest)
  one_spoken n dest = by (is_some (own_hop net dest i))
    where
      by : (b : Bool) → AllByRecursion (λ (q : ℕ × PureVector). speaker net q.0 ≡ Some i) (cond b (reported_on (arcs_to net i) (vector_of dest (own_hop net dest i) 0)) [])
      by true = reported_by_speaker net i (vector_of dest (own_hop net dest i) 0) n
      by false = tt

  begun_spoken : IsNet net → (dests : List ℕ) → AllByRecursion (λ (q : ℕ × PureVector). speaker net q.0 ≡ Some i) (all_begun net i dests)
  begun_spoken n [] = tt
  begun_spoken n (dest ∷ dests) = all_join (λ (q : ℕ × PureVector). speaker net q.0 ≡ Some i) (begun_of net i dest) (all_begun net i dests) (one_spoken n dest) (begun_spoken n dests)

  one_few : IsNet net → (a dest : ℕ) → length (on_arc a (begun_of net i dest)) ≤ 1
  one_few n a dest = by (is_some (own_hop net dest i))
    where
      by : (b : Bool) → length (on_arc a (cond b (reported_on (arcs_to net i) (vector_of dest (own_hop net dest i) 0)) [])) ≤ 1
      by true = reported_few net i a (vector_of dest (own_hop net dest i) 0) n
      by false = omega arith

  begun_count : IsNet net → (a : ℕ) (dests : List ℕ) → length (on_arc a (all_begun net i dests)) ≤ length dests
  begun_count n a [] = omega arith
  begun_count n a (dest ∷ dests) =
      let one = one_few n a dest in
      let more = begun_count n a dests in
      let sum = length-append (on_arc a (begun_of net i dest)) (on_arc a (all_begun net i dests)) in
      rw (on_arc_join a (begun_of net i dest) (all_begun net i dests)) (omega (arith, one, more, sum))

begun_few : (s : DvState) (a : ℕ) → IsNet s.net → length (on_arc a (Begin s).1) ≤ max_begun
begun_few s a n =
    let count = begun_count s.net s.number n a (range_with_len 0 (length s.net.dests)) in
    let dests = length-range_with_len 0 (length s.net.dests) in
    let room = n.dest_room in
    let few = few_dests s.net.alg.edition in
    omega (arith, count, dests, room, few)

module _ (s : DvState) (a : ℕ) (m : PureVector) (t : ℕ) where
  abbrev row : Option Hop
  row = choice s.net m.dest s.number (λ b. heard_with s.heard a m.dest m.value b m.dest)

  abbrev new : PureVector
  new = vector_of m.dest row t

  abbrev stepped_if : Bool → Bool → DvState × List (ℕ × PureVector)
  stepped_if b c =
      cond {A = DvState × List (ℕ × PureVector)} b
      (record s { heard = heard_with s.heard a m.dest m.value; rows = changed_at s.rows m.dest row; last = t }, cond c [] (reported_on (arcs_to s.net s.number) new))
      (record s { last = t }, [])

  step_later : s.is_begun ≡ true → IsLater distance s (Step s a m t).0 t
  step_later e = by (fits_in s.net m) (same_reported (value_of row) (value_of (s.rows m.dest)))
    where
      by : (b c : Bool) → IsLater distance s (stepped_if b c).0 t
      by true c = record { net = refl; number = refl; begun = e; last = refl }
      by false c = record { net = refl; number = refl; begun = e; last = refl }

  step_sent : IsSentBy distance s t (Step s a m t).1
  step_sent = by (fits_in s.net m) (same_reported (value_of row) (value_of (s.rows m.dest)))
    where
      by : (b c : Bool) → IsSentBy distance s t (stepped_if b c).1
      by true true = record { stamped = tt; spoken = λ n. tt }
      by true false = record {
        stamped = reported_all (λ v. v.stamp ≡ t) (arcs_to s.net s.number) new refl;
        spoken = λ n. reported_by_speaker s.net s.number new n;
      }
      by false c = record { stamped = tt; spoken = λ n. tt }

  step_few : (b : ℕ) → IsNet s.net → length (on_arc b (Step s a m t).1) ≤ 1
  step_few b n = by (fits_in s.net m) (same_reported (value_of row) (value_of (s.rows m.dest)))
    where
      by : (f c : Bool) → length (on_arc b (stepped_if f c).1) ≤ 1
      by true true = omega arith
      by true false = reported_few s.net s.number b new n
      by false c = omega arith

-- what holds of every kind of node holds of distance-vector nodes
pub distance_is_lawful : IsLawful distance
distance_is_lawful = record {
  begins = λ s. record { net = refl; number = refl; begun = refl; last = refl };
  begun_sends = λ s. record {
    stamped = begun_stamped s.net s.number (range_with_len 0 (length s.net.dests));
    spoken = λ n. begun_spoken s.net s.number n (range_with_len 0 (length s.net.dests));
  };
  begun_few = begun_few;
  steps = λ s a m t e. step_later s a m t e;
  step_sends = λ s a m t. step_sent s a m t;
  step_few = λ s a b m t n. step_few s a m t b n;
  unfit = λ s a m t e. rw e refl;
  last_set = λ s t. refl;
  last_kept = λ s. refl;
  last_alone = λ s t u. refl;
}
