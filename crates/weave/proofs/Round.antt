-- A round of workers, put together from what each did with its block; the sums of a round; and the machine at the start
-- and at the end of a phase.
use Rattle.std.proofs.Common.{◌≡◌, ℕ, zero, suc, ◌+◌, ◌*◌, ◌/◌, ◌%◌, ◌<◌, ◌≤◌, Bool, true, false, cond, List, [], ◌∷◌, ◌++◌, Option, Some, None, map, length, sum_by, slice_get, refl, sym, ap, subst, ◌∙◌, append-nil, ◌⊎◌, inl, inr, arith}
use Rattle.std.specs.Prelude.{◌==◌}
use Rattle.std.proofs.Math.Nat.{div-add-mod}
use Rattle.std.proofs.lemmas.Bool.{cases_lt, eqb-true, eqb-false}
use Rattle.std.proofs.lemmas.List.Sums.{sum_by-cons}
use Rattle.std.proofs.lemmas.Nat.{mod_below}
use Rattle.std.proofs.lemmas.Option.{same_Some, slice_get_past}
use Rattle.link_queues.specs.Links.{LinkId}
use Rattle.net_graph.specs.Nets.{PureNet, IsNet}
use Rattle.node_core.specs.Kinds.{Kind, IsLawful, listener, speaker, on_arc}
use Rattle.node_core.specs.Machine.{Machine, AreUnbegun, Drained, begun_messages}
use Rattle.node_core.specs.MachineLaws.{same_test, on_arc_join, on_arc_none}
use Rattle.node_core.specs.Running.{IsNodeAt, IsRunning}
use Rattle.node_core.specs.declared.node.TheConstants.{MAX_BEGUN}
use Rattle.woven_laws.specs.ArcEnds.{ends_heard}
use Rattle.woven_laws.specs.CountLaws.{total_same, total_plus, total_zero, zero_total, total_swap, total_at}
use Rattle.woven_laws.specs.Counts.{total, waiting_on, sent_by_all, taken_by_all}
use Rattle.woven_laws.specs.Histories.{Taken, entry_of, taken_on, clock_past, node_after, option_after, option_out}
use Rattle.woven_laws.specs.HistoryLaws.{out_none}
use Rattle.woven_laws.specs.Woven.{Woven}
use Rattle.weave.specs.Lanes.{PureLane, elsewhere, inside, coming, going, HasPassed, waits_inside}
use Rattle.weave.specs.Views.{View, IsSeated}
use Rattle.weave.specs.Gathered.{block_of, lane_across, machine_across, AreGathered, HasEnds, AreLinked, AreEnded, AreSettled}
use Rattle.weave.specs.Rounds.{HasRunIn, share_of}

module _ {M : Type 0} (put taken : List M) where
  -- where both ends are in one block they stay there
  pub inside_passed : (waits : List M) (n : PureLane M) → HasPassed (inside waits) put taken n → (rest : List M) × (n ≡ inside rest) × (waits ++ put ≡ taken ++ rest)
  inside_passed waits elsewhere p = absurd p
  inside_passed waits (inside rest) p = (rest, refl, p)
  inside_passed waits (coming link received) p = absurd p
  inside_passed waits (going link sent) p = absurd p

  -- a link keeps its end
  coming_passed : (link : LinkId) (received : List M) (n : PureLane M) → HasPassed (coming link received) put taken n → n ≡ coming link (received ++ taken)
  coming_passed link received elsewhere p = absurd p
  coming_passed link received (inside rest) p = absurd p
  coming_passed link received (coming other now) p = rw (p.0, p.1) refl
  coming_passed link received (going other now) p = absurd p

  going_passed : (link : LinkId) (sent : List M) (n : PureLane M) → HasPassed (going link sent) put taken n → n ≡ going link (sent ++ put)
  going_passed link sent elsewhere p = absurd p
  going_passed link sent (inside rest) p = absurd p
  going_passed link sent (coming other now) p = absurd p
  going_passed link sent (going other now) p = rw (p.0, p.1) refl

module _ {S M : Type 0} (k : Kind S M) (net : PureNet) (count : ℕ) where
  -- the lane of an arc is that of its listener's block
  lane_here : (views : ℕ → View S M) (a i : ℕ) → listener net a ≡ Some i → lane_across net count views a ≡ (views (block_of count i)).lane a
  lane_here views a i hears = rw hears refl

  module _ (old first second : ℕ → View S M) (gathered : AreGathered net count old) (linked : AreLinked net count old first) (each : (w : ℕ) → HasRunIn k net count first second w) where
    -- after the round a link has what was taken at one end, and what waited and was put at the other
    ends_after : (a i j : ℕ) → listener net a ≡ Some i → speaker net a ≡ Some j → (block_of count i == block_of count j) ≡ false
        → HasEnds net count second a i j
        (taken_on a ((each (block_of count i)).history i))
        (waits_inside ((old (block_of count i)).lane a) ++ on_arc a (option_out k ((first (block_of count j)).node j) ((each (block_of count j)).history j)))
    ends_after a i j hears speaks apart =
        let ends = linked.across a i j hears speaks apart in
        let here = block_of count i in
        let there = block_of count j in
        let put = on_arc a (option_out k ((first here).node j) ((each here).history j)) in
        let taken = taken_on a ((each there).history i) in
        record {
          link = ends.link;
          into_is = coming_passed put (taken_on a ((each here).history i)) ends.link [] ((second here).lane a)
              (subst (λ l. HasPassed l put (taken_on a ((each here).history i)) ((second here).lane a)) ends.into_is ((each here).run.lane_is a i j hears speaks));
          out_is = going_passed (on_arc a (option_out k ((first there).node j) ((each there).history j))) taken ends.link (waits_inside ((old here).lane a)) ((second there).lane a)
              (subst (λ l. HasPassed l (on_arc a (option_out k ((first there).node j) ((each there).history j))) taken ((second there).lane a)) ends.out_is ((each there).run.lane_is a i j hears speaks));
        }

    pub round_ended : AreEnded net count second
    round_ended a i j hears speaks apart =
        (taken_on a ((each (block_of count i)).history i), waits_inside ((old (block_of count i)).lane a) ++ on_arc a (option_out k ((first (block_of count j)).node j) ((each (block_of count j)).history j)), ends_after a i j hears speaks apart)

    -- of a node that stands elsewhere a worker has no history
    none_here : (i w : ℕ) → (w == block_of count i) ≡ false → (each w).history i ≡ []
    none_here i w apart = (each w).run.none_takes i (linked.seats.node_is w i ∙ gathered.own i w apart)

    -- what all workers sent and took is what all nodes did
    pub round_sent : 0 < count → total count (λ w. sent_by_all k net (first w).node (each w).history) ≡ sent_by_all k net (machine_across net count old).node (λ i. (each (block_of count i)).history i)
    round_sent some =
        total_swap count (length net.nodes) (λ w i. length (option_out k ((first w).node i) ((each w).history i)))
        ∙ total_same (length net.nodes) (λ i. total count (λ w. length (option_out k ((first w).node i) ((each w).history i)))) (λ i. length (option_out k ((old (block_of count i)).node i) ((each (block_of count i)).history i)))
        (λ i lt. at_node i)
      where
        none : (i w : ℕ) → (w == block_of count i) ≡ false → length (option_out k ((first w).node i) ((each w).history i)) ≡ 0
        none i w apart = ap (λ h. length (option_out k ((first w).node i) h)) (none_here i w apart) ∙ ap length (out_none k ((first w).node i))

        at_node : (i : ℕ) → total count (λ w. length (option_out k ((first w).node i) ((each w).history i))) ≡ length (option_out k ((old (block_of count i)).node i) ((each (block_of count i)).history i))
        at_node i =
            total_at count (block_of count i) (λ w. length (option_out k ((first w).node i) ((each w).history i))) (mod_below i count some) (none i)
            ∙ ap (λ o. length (option_out k o ((each (block_of count i)).history i))) (linked.seats.node_is (block_of count i) i)

    pub round_taken : 0 < count → total count (λ w. taken_by_all net (each w).history) ≡ taken_by_all net (λ i. (each (block_of count i)).history i)
    round_taken some =
        total_swap count (length net.nodes) (λ w i. length ((each w).history i))
        ∙ total_same (length net.nodes) (λ i. total count (λ w. length ((each w).history i))) (λ i. length ((each (block_of count i)).history i))
        (λ i lt. total_at count (block_of count i) (λ w. length ((each w).history i)) (mod_below i count some) (λ w apart. ap length (none_here i w apart)))

    module _ (new : ℕ → View S M) (settled : AreSettled net count second new) where
      -- what waits on an arc when the ends are together again
      lane_after : (a i j : ℕ) → listener net a ≡ Some i → speaker net a ≡ Some j
          → (rest : List M) × ((new (block_of count i)).lane a ≡ inside rest)
          × (waits_inside ((old (block_of count i)).lane a) ++ on_arc a (option_out k ((first (block_of count j)).node j) ((each (block_of count j)).history j)) ≡ taken_on a ((each (block_of count i)).history i) ++ rest)
      lane_after a i j hears speaks = by (block_of count i == block_of count j) refl
        where
          put : ℕ → List M
          put w = on_arc a (option_out k ((first w).node j) ((each w).history j))

          taken : List M
          taken = taken_on a ((each (block_of count i)).history i)

          together : block_of count i ≡ block_of count j → HasPassed (inside (waits_inside ((old (block_of count i)).lane a))) (put (block_of count j)) taken ((second (block_of count i)).lane a)
          together same =
              subst (λ w. HasPassed (inside (waits_inside ((old (block_of count i)).lane a))) (put w) taken ((second (block_of count i)).lane a)) same
              (subst (λ l. HasPassed l (put (block_of count i)) taken ((second (block_of count i)).lane a)) (linked.within a i j hears speaks same ∙ gathered.whole a i hears)
              ((each (block_of count i)).run.lane_is a i j hears speaks))

          by : (t : Bool) → (block_of count i == block_of count j) ≡ t → (rest : List M) × ((new (block_of count i)).lane a ≡ inside rest) × (waits_inside ((old (block_of count i)).lane a) ++ put (block_of count j) ≡ taken ++ rest)
          by true t =
              let same : block_of count i ≡ block_of count j = eqb-true (block_of count i) (block_of count j) t in
              let stays = inside_passed (put (block_of count j)) taken (waits_inside ((old (block_of count i)).lane a)) ((second (block_of count i)).lane a) (together same) in
              (stays.0, settled.within a i j hears speaks same ∙ stays.1, stays.2)
          by false t =
              let back = settled.across a i j hears speaks t taken (waits_inside ((old (block_of count i)).lane a) ++ put (block_of count j)) (ends_after a i j hears speaks t) in
              (back.0, back.1, sym back.2)

      link_after : (a i j : ℕ) → listener net a ≡ Some i → speaker net a ≡ Some j
          → waits_inside (lane_across net count old a) ++ on_arc a (option_out k ((old (block_of count j)).node j) ((each (block_of count j)).history j))
          ≡ taken_on a ((each (block_of count i)).history i) ++ waits_inside (lane_across net count new a)
      link_after a i j hears speaks =
          let after = lane_after a i j hears speaks in
          let waits : waits_inside (lane_across net count new a) ≡ after.0 = ap waits_inside (lane_here new a i hears ∙ after.1) in
          let before : waits_inside (lane_across net count old a) ≡ waits_inside ((old (block_of count i)).lane a) = ap waits_inside (lane_here old a i hears) in
          ap (λ l. l ++ on_arc a (option_out k ((old (block_of count j)).node j) ((each (block_of count j)).history j))) before
          ∙ (ap (λ o. waits_inside ((old (block_of count i)).lane a) ++ on_arc a (option_out k o ((each (block_of count j)).history j))) (sym (linked.seats.node_is (block_of count j) j))
          ∙ (after.2 ∙ ap (λ l. taken_on a ((each (block_of count i)).history i) ++ l) (sym waits)))

      -- all blocks went on together as one machine
      pub round_is : Woven k net (machine_across net count old) (λ i. (each (block_of count i)).history i) (machine_across net count new)
      round_is =
          record {
            node_is = λ i. settled.seats.node_is (block_of count i) i ∙ ((each (block_of count i)).run.node_is i ∙ ap (λ o. option_after k o ((each (block_of count i)).history i)) (linked.seats.node_is (block_of count i) i));
            none_takes = λ i none. (each (block_of count i)).run.none_takes i (linked.seats.node_is (block_of count i) i ∙ none);
            clock_is = λ i. settled.seats.clock_is (block_of count i) i ∙ ((each (block_of count i)).run.clock_is i ∙ ap (λ t. clock_past t ((each (block_of count i)).history i)) (linked.seats.clock_is (block_of count i) i));
            timed = λ i. rw (linked.seats.clock_is (block_of count i) i) at ((each (block_of count i)).run.timed i);
            heard = λ i. (each (block_of count i)).run.heard i;
            spoken = λ i. rw (linked.seats.node_is (block_of count i) i) at ((each (block_of count i)).run.spoken i);
            link_is = link_after;
            outside = λ a past. rw (slice_get_past net.arcs a past) refl;
          }

      pub round_gathered : AreGathered net count new
      round_gathered =
          record {
            own = λ i b apart. settled.seats.node_is b i ∙ ((each b).run.node_is i ∙ ap (λ o. option_after k o ((each b).history i)) (linked.seats.node_is b i ∙ gathered.own i b apart));
            whole = whole;
          }
        where
          whole : (a i : ℕ) → listener net a ≡ Some i → (new (block_of count i)).lane a ≡ inside (waits_inside ((new (block_of count i)).lane a))
          whole a i hears =
              let ends = ends_heard net a i hears in
              let after = lane_after a i ends.teller hears ends.speaks in
              after.1 ∙ ap (λ l. inside (waits_inside l)) (sym after.1)

      pub round_logs : (i : ℕ) → (new (block_of count i)).log i ≡ (old (block_of count i)).log i ++ map entry_of ((each (block_of count i)).history i)
      round_logs i =
          settled.seats.log_is (block_of count i) i ∙ ((each (block_of count i)).run.log_is i ∙ ap (λ l. l ++ map entry_of ((each (block_of count i)).history i)) (linked.seats.log_is (block_of count i) i))

total_const : (n c : ℕ) → total n (λ w. c) ≡ n * c
total_const zero c = omega arith
total_const (suc n) c = let r = total_const n c in grind arith

-- the shares of the turns are the turns
pub shares_add_up : (turns count extra : ℕ) → extra < count → total count (share_of turns count extra) ≡ turns
shares_add_up turns count extra lt =
    let even : total count (λ w. turns / count) ≡ count * (turns / count) = total_const count (turns / count) in
    let rest : total count (λ w. cond (w == extra) (turns % count) 0) ≡ turns % count =
    total_at count extra (λ w. cond (w == extra) (turns % count) 0) lt (λ j ne. rw ne refl) ∙ rw (same_test extra) refl in
    total_plus count (λ w. turns / count) (λ w. cond (w == extra) (turns % count) 0) ∙ rw (even, rest) (div-add-mod turns count)

-- a sum from its front
total_front : (n : ℕ) (g : ℕ → ℕ) → total (suc n) g ≡ g 0 + total n (λ w. g (suc w))
total_front zero g = omega arith
total_front (suc n) g = let r = total_front n g in omega arith

pub sum_total : {X : Type 0} (f : X → ℕ) (xs : List X) (g : ℕ → ℕ) → ((w : ℕ) (x : X) → slice_get xs w ≡ Some x → f x ≡ g w) → sum_by f xs ≡ total (length xs) g
sum_total f [] g e = refl
sum_total f (x ∷ xs) g e =
    let here : f x ≡ g 0 = e 0 x refl in
    let rest : sum_by f xs ≡ total (length xs) (λ w. g (suc w)) = sum_total f xs (λ w. g (suc w)) (λ w y got. e (suc w) y got) in
    sum_by-cons f x xs ∙ (rw (here, rest) refl ∙ sym (total_front (length xs) g))

none_some : (n : ℕ) → None ≡ Some n → ⊥
none_some n e = absurd (cc)

empty : {X : Type 0} (xs : List X) → length xs ≡ 0 → xs ≡ []
empty [] e = refl
empty (x ∷ xs) e = absurd (omega (arith, e))

module _ {S M : Type 0} (k : Kind S M) (net : PureNet) where
  module _ (lawful : IsLawful k) (is_net : IsNet net) (a : ℕ) where
    -- a node that doesn't speak on the arc puts nothing there when it begins
    begin_silent : (s : S) (n : ℕ) → k.net s ≡ net → k.number s ≡ n → (speaker net a ≡ Some n → ⊥) → on_arc a (k.begin s).1 ≡ []
    begin_silent s n net_is number_is other =
        on_arc_none (λ b. speaker (k.net s) b ≡ Some (k.number s)) a (λ speaks. other (rw (net_is, number_is) at speaks)) (k.begin s).1
        ((lawful.begun_sends s).spoken (subst (λ m. IsNet m) (sym net_is) is_net))

    -- nor do nodes that all have greater numbers than its speaker
    begun_silent : (n : ℕ) (nodes : List S) → AreUnbegun k net n nodes → ((i : ℕ) → n ≤ i → speaker net a ≡ Some i → ⊥) → on_arc a (begun_messages k nodes) ≡ []
    begun_silent n [] u other = refl
    begun_silent n (s ∷ nodes) u other =
        let here = begin_silent s n u.0 u.1 (other n (omega arith)) in
        let rest = begun_silent (n + 1) nodes u.3 (λ i past. other i (omega (arith, past))) in
        on_arc_join a (k.begin s).1 (begun_messages k nodes) ∙ rw (here, rest) refl

    begun_few_from : (n : ℕ) (nodes : List S) → AreUnbegun k net n nodes → length (on_arc a (begun_messages k nodes)) ≤ MAX_BEGUN
    begun_few_from n [] u = omega arith
    begun_few_from n (s ∷ nodes) u = by (speaker net a) refl (begun_few_from (n + 1) nodes u.3)
      where
        split : on_arc a (begun_messages k (s ∷ nodes)) ≡ on_arc a (k.begin s).1 ++ on_arc a (begun_messages k nodes)
        split = on_arc_join a (k.begin s).1 (begun_messages k nodes)

        silent_here : (speaker net a ≡ Some n → ⊥) → length (on_arc a (begun_messages k nodes)) ≤ MAX_BEGUN → length (on_arc a (begun_messages k (s ∷ nodes))) ≤ MAX_BEGUN
        silent_here other rest = let none = begin_silent s n u.0 u.1 other in rw (split, none) rest

        alone : (j : ℕ) → speaker net a ≡ Some j → j ≡ n → length (on_arc a (begun_messages k (s ∷ nodes))) ≤ MAX_BEGUN
        alone j speaks same =
            let rest = begun_silent (n + 1) nodes u.3 (λ i past e. let is : j ≡ i = same_Some _ _ (sym speaks ∙ e) in absurd (omega (arith, past, is, same))) in
            rw (split, rest, append-nil (on_arc a (k.begin s).1)) (lawful.begun_few s a (subst (λ m. IsNet m) (sym u.0) is_net))

        by : (o : Option ℕ) → speaker net a ≡ o → length (on_arc a (begun_messages k nodes)) ≤ MAX_BEGUN → length (on_arc a (begun_messages k (s ∷ nodes))) ≤ MAX_BEGUN
        by None speaks rest = silent_here (λ e. absurd (none_some n (sym speaks ∙ e))) rest
        by (Some j) speaks rest = spoken (j == n) refl
          where
            spoken : (t : Bool) → (j == n) ≡ t → length (on_arc a (begun_messages k (s ∷ nodes))) ≤ MAX_BEGUN
            spoken true t = alone j speaks (eqb-true j n t)
            spoken false t = silent_here (λ e. eqb-false j n t (same_Some _ _ (sym speaks ∙ e))) rest

  -- when nodes begin only the speaker of an arc puts messages there
  pub begun_link_few : IsLawful k → IsNet net → (nodes : List S) → AreUnbegun k net 0 nodes → (a : ℕ) → length (on_arc a (begun_messages k nodes)) ≤ MAX_BEGUN
  begun_link_few lawful is_net nodes u a = begun_few_from lawful is_net a 0 nodes u

  -- nodes keep their places
  node_after_at : IsLawful k → (c : Machine S M) (i : ℕ) (s : S) (history : List (Taken M)) → IsNodeAt k net c i s → IsSeated k net i (clock_past (c.clock i) history) (node_after k s history)
  node_after_at lawful c i s history at = follows (c.clock i) s history (record { net_is = at.net_is; number_is = at.number_is; begun = at.begun; last_is = at.last_is })
    where
      follows : (t : ℕ) (s : S) (history : List (Taken M)) → IsSeated k net i t s → IsSeated k net i (clock_past t history) (node_after k s history)
      follows t s [] x = x
      follows t s (h ∷ history) x =
          let later = lawful.steps s h.arc h.message h.clock x.begun in
          follows h.clock (k.step s h.arc h.message h.clock).0 history
          (record { net_is = later.net ∙ x.net_is; number_is = later.number ∙ x.number_is; begun = later.begun; last_is = later.last })

  -- what was woven from a machine that runs runs
  pub woven_runs : IsLawful k → (c d : Machine S M) (h : ℕ → List (Taken M)) → IsRunning k net c → Woven k net c h d → IsRunning k net d
  woven_runs lawful c d h run woven =
      record {
        there = λ i lt. let was = run.there i lt in (node_after k was.0 (h i), woven.node_is i ∙ ap (λ o. option_after k o (h i)) was.1);
        past = λ i past. woven.node_is i ∙ ap (λ o. option_after k o (h i)) (run.past i past);
        each = λ i s e. place i s e (c.node i) refl;
        on_arcs = λ a past. sym (woven.outside a past) ∙ run.on_arcs a past;
      }
    where
      place : (i : ℕ) (s : S) → d.node i ≡ Some s → (o : Option S) → c.node i ≡ o → IsNodeAt k net d i s
      place i s e None was = let gone : d.node i ≡ None = woven.node_is i ∙ ap (λ o. option_after k o (h i)) was in absurd (cc)
      place i s e (Some before) was =
          let now : d.node i ≡ Some (node_after k before (h i)) = woven.node_is i ∙ ap (λ o. option_after k o (h i)) was in
          let same : node_after k before (h i) ≡ s = same_Some _ _ (sym now ∙ e) in
          let seat = node_after_at lawful c i before (h i) (run.each i before was) in
          subst (IsNodeAt k net d i) same (record { net_is = seat.net_is; number_is = seat.number_is; begun = seat.begun; last_is = seat.last_is ∙ sym (woven.clock_is i) })

module _ {S M : Type 0} (net : PureNet) (c : Machine S M) where
  -- where no message is counted none waits
  pub none_waiting : waiting_on net c ≡ 0 → ((a : ℕ) → length net.arcs ≤ a → c.link a ≡ []) → Drained c
  none_waiting zero_is outside a = by (cases_lt a (length net.arcs))
    where
      by : (a < length net.arcs) ⊎ (length net.arcs ≤ a) → c.link a ≡ []
      by (inl lt) = empty (c.link a) (zero_total (length net.arcs) (λ b. length (c.link b)) zero_is a lt)
      by (inr past) = outside a past

  pub drained_waits : Drained c → waiting_on net c ≡ 0
  drained_waits drained = total_zero (length net.arcs) (λ a. length (c.link a)) (λ a lt. ap length (drained a))
