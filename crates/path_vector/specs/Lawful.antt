-- The path-vector kind is lawful. A lemma, so that proofs of other crates may cite it.
use Rattle.std.proofs.Common.{◌≡◌, ℕ, ◌≤◌, List, [], ◌∷◌, Bool, true, false, length, filter, cond, Option, Some, refl, arith}
use Rattle.std.specs.List.{AllByRecursion, range_with_len}
use Rattle.std.proofs.lemmas.List.{length-append}
use Rattle.std.proofs.lemmas.List.FromFn.{length-range_with_len}
use Rattle.net_graph.specs.Nets.{IsNet, arcs_to}
use Rattle.net_graph.specs.NetLaws.{few_dests}
use Rattle.net_graph.specs.Routes.{PureRoute}
use Rattle.node_core.specs.Numbers.{max_begun}
use Rattle.node_core.specs.Machine.{changed_at}
use Rattle.node_core.specs.Kinds.{IsLawful, IsSentBy, IsLater, on_arc, speaker}
use Rattle.node_core.specs.MachineLaws.{all_join, on_arc_join}
use Rattle.path_vector.specs.Node.{PvState, PureUpdate, reported_on, fits, choice, same_row, is_news, begun_updates, all_begun_updates, Begin, heard_with, taken, Step, path_vector}
use Rattle.path_vector.specs.Items.{unfiltered}
use Rattle.path_vector.specs.Reporting.{reported_at_most_once, reported_by_speaker, reported_all}

begun_stamped : (s : PvState) (dests : List ℕ) → AllByRecursion (λ (q : ℕ × PureUpdate). q.1.stamp ≡ 0) (all_begun_updates s dests)
begun_stamped s [] = tt
begun_stamped s (dest ∷ dests) =
    let row = choice s.net dest s.number s.heard in
    all_join (λ (q : ℕ × PureUpdate). q.1.stamp ≡ 0) (begun_updates s dest) (all_begun_updates s dests)
    (reported_all (λ u. u.stamp ≡ 0) (filter (is_news s row dest) (arcs_to s.net s.number)) (record { dest = dest; route = row; stamp = 0 }) refl) (begun_stamped s dests)

begun_spoken : (s : PvState) (dests : List ℕ) → IsNet s.net → AllByRecursion (λ (q : ℕ × PureUpdate). speaker s.net q.0 ≡ Some s.number) (all_begun_updates s dests)
begun_spoken s [] n = tt
begun_spoken s (dest ∷ dests) n =
    let row = choice s.net dest s.number s.heard in
    all_join (λ (q : ℕ × PureUpdate). speaker s.net q.0 ≡ Some s.number) (begun_updates s dest) (all_begun_updates s dests)
    (reported_by_speaker s.net s.number (is_news s row dest) (record { dest = dest; route = row; stamp = 0 }) n) (begun_spoken s dests n)

begun_count : (s : PvState) (a : ℕ) (dests : List ℕ) → IsNet s.net → length (on_arc a (all_begun_updates s dests)) ≤ length dests
begun_count s a [] n = omega arith
begun_count s a (dest ∷ dests) n =
    let row = choice s.net dest s.number s.heard in
    let one = reported_at_most_once s.net s.number a (is_news s row dest) (record { dest = dest; route = row; stamp = 0 }) n in
    let more = begun_count s a dests n in
    let sum = length-append (on_arc a (begun_updates s dest)) (on_arc a (all_begun_updates s dests)) in
    rw (on_arc_join a (begun_updates s dest) (all_begun_updates s dests)) (omega (arith, one, more, sum))

begun_few : (s : PvState) (a : ℕ) → IsNet s.net → length (on_arc a (Begin s).1) ≤ max_begun
begun_few s a n =
    let count = begun_count s a (range_with_len 0 (length s.net.dests)) n in
    let dests = length-range_with_len 0 (length s.net.dests) in
    let room = n.dest_room in
    let few = few_dests s.net.alg.edition in
    omega (arith, count, dests, room, few)

module _ (s : PvState) (a : ℕ) (u : PureUpdate) (t : ℕ) where
  abbrev row : Option PureRoute
  row = choice s.net u.dest s.number (heard_with s.heard a u)

  abbrev new : PureUpdate
  new = record { dest = u.dest; route = row; stamp = t }

  step_later : s.is_begun ≡ true → IsLater path_vector s (Step s a u t).0 t
  step_later e = by (fits s a u)
    where
      by : (b : Bool) → IsLater path_vector s (cond {A = PvState × List (ℕ × PureUpdate)} b (taken s a u t) (record s { last = t }, [])).0 t
      by true = record { net = refl; number = refl; begun = e; last = refl }
      by false = record { net = refl; number = refl; begun = e; last = refl }

  step_sent : IsSentBy path_vector s t (Step s a u t).1
  step_sent = by (fits s a u) (same_row row (s.rows u.dest))
    where
      by : (b c : Bool) → IsSentBy path_vector s t (cond {A = PvState × List (ℕ × PureUpdate)} b (record s { heard = heard_with s.heard a u; rows = changed_at s.rows u.dest row; last = t }, cond c [] (reported_on (arcs_to s.net s.number) new)) (record s { last = t }, [])).1
      by true true = record { stamped = tt; spoken = λ n. tt }
      by true false = record {
        stamped = reported_all (λ v. v.stamp ≡ t) (arcs_to s.net s.number) new refl;
        spoken = λ n. rw (unfiltered (arcs_to s.net s.number)) at (reported_by_speaker s.net s.number (λ _. true) new n);
      }
      by false c = record { stamped = tt; spoken = λ n. tt }

  step_few : (b : ℕ) → IsNet s.net → length (on_arc b (Step s a u t).1) ≤ 1
  step_few b n = by (fits s a u) (same_row row (s.rows u.dest))
    where
      by : (f c : Bool) → length (on_arc b (cond {A = PvState × List (ℕ × PureUpdate)} f (record s { heard = heard_with s.heard a u; rows = changed_at s.rows u.dest row; last = t }, cond c [] (reported_on (arcs_to s.net s.number) new)) (record s { last = t }, [])).1) ≤ 1
      by true true = omega arith
      by true false = rw (unfiltered (arcs_to s.net s.number)) at (reported_at_most_once s.net s.number b (λ _. true) new n)
      by false c = omega arith

-- what holds of every kind of node holds of path-vector nodes
pub path_vector_is_lawful : IsLawful path_vector
path_vector_is_lawful = record {
  begins = λ s. record { net = refl; number = refl; begun = refl; last = refl };
  begun_sends = λ s. record {
    stamped = begun_stamped s (range_with_len 0 (length s.net.dests));
    spoken = begun_spoken s (range_with_len 0 (length s.net.dests));
  };
  begun_few = begun_few;
  steps = λ s a u t e. step_later s a u t e;
  step_sends = λ s a u t. step_sent s a u t;
  step_few = λ s a b u t n. step_few s a u t b n;
  unfit = λ s a u t e. rw e refl;
  last_set = λ s t. refl;
  last_kept = λ s. refl;
  last_alone = λ s t u. refl;
}
