-- All nodes with one queue of what waits.
use Rattle.std.proofs.Common.{◌≡◌, ℕ, zero, suc, ◌+◌, ◌<◌, ◌≤◌, ◌⊎◌, max, Bool, true, false, cond, List, [], ◌∷◌, ◌++◌, Option, Some, None, map, length, slice_get, slice_set, option_map, inl, inr, refl, sym, ap, ap₂, subst, ◌∙◌, append-nil, arith}
use Rattle.std.specs.Prelude.{◌==◌}
use Rattle.std.specs.List.{range_with_len}
use Rattle.std.specs.declared.alloc.Global.{Global}
use Rattle.std.specs.declared.collections.VecDeque.{VecDeque}
use Rattle.std.proofs.lemmas.Bool.{cases_lt, eqb-true, false_from_ne_true}
use Rattle.std.proofs.lemmas.List.{length-map, map-append}
use Rattle.std.proofs.lemmas.Option.{slice_get-map, slice_get_within}
use Rattle.meta_base.specs.declared.ids.ArcId.{ArcId}
use Rattle.net_graph.specs.Nets.{PureNet, IsNet}
use Rattle.node_core.specs.declared.node.TheConstants.{MAX_CLOCK}
use Rattle.node_core.specs.Configs.{noted, waits_on}
use Rattle.node_core.specs.Kinds.{Kind, listener, on_arc}
use Rattle.node_core.specs.Machine.{Machine, Drained, changed_at, front_clock}
use Rattle.node_core.specs.MachineLaws.{on_arc_join, same_test}
use Rattle.node_core.specs.Running.{IsRunning}
use Rattle.journal_merge.specs.declared.log.NodeLog.{NodeLog}
use Rattle.woven_laws.specs.ArcEnds.{hearer_within}
use Rattle.woven_laws.specs.Delivered.{HasDelivered}
use Rattle.weave.specs.declared.seat.Seat.{Seat}
use Rattle.weave.specs.declared.started.Started.{Started}
use Rattle.weave.specs.Blocks.{clock_in, log_in}
use Rattle.weave.specs.Going.{HasGone, logs_by}
use Rattle.weave.specs.Queued.{fresh_seat, logs_from, on_its_arc, queue_from, queued_log, queued_machine}
use Rattle.weave.specs.Started.{IsStarted}
use Rattle.weave.specs.Views.{CanHear}
use Rattle.weave.proofs.Changing.{found_set}
use Rattle.weave.proofs.Going.{gone_first, same_machine}

module _ {N X : Type 0} where
  -- logs one after another are those by number
  logs_by_number : (n : ℕ) (seats : List (Seat N X)) (f : ℕ → NodeLog) → ((i : ℕ) → f (n + i) ≡ record { node = record { 0 = n + i }; entries = queued_log seats i }) → logs_from n seats ≡ map f (range_with_len n (length seats))
  logs_by_number n [] f is = refl
  logs_by_number n (seat ∷ seats) f is =
      let first : f n ≡ record { node = record { 0 = n }; entries = seat.log } = subst (λ m. f m ≡ record { node = record { 0 = m }; entries = seat.log }) (omega arith) (is 0) in
      let next : (i : ℕ) → f (n + 1 + i) ≡ record { node = record { 0 = n + 1 + i }; entries = queued_log seats i } = λ i. subst (λ m. f m ≡ record { node = record { 0 = m }; entries = queued_log seats i }) (omega arith) (is (suc i)) in
      ap₂ (λ (l : NodeLog) ls. l ∷ ls) (sym first) (logs_by_number (n + 1) seats f next)

  pub logs_are : (seats : List (Seat N X)) → logs_from 0 seats ≡ logs_by (queued_log seats) (length seats)
  logs_are seats = logs_by_number 0 seats (λ i. record { node = record { 0 = i }; entries = queued_log seats i })
      (λ i. let same : 0 + i ≡ i = omega arith in ap (λ n. record { node = record { 0 = 0 + i }; entries = queued_log seats n }) same)

module _ {N X S M : Type 0} (state : N → S) (note : X → M) where
  abbrev state_in : Seat N X → S
  state_in seat = state seat.node

  pub nodes_apart : (seats : List (Seat N X)) (queue : List (ArcId × X)) (i : ℕ) → (queued_machine state note seats queue).node i ≡ slice_get (map state (map (λ (seat : Seat N X). seat.node) seats)) i
  nodes_apart seats queue i =
      sym (slice_get-map state (map (λ (seat : Seat N X). seat.node) seats) i ∙ (ap (option_map state) (slice_get-map (λ (seat : Seat N X). seat.node) seats i) ∙ twice (slice_get seats i)))
    where
      twice : (o : Option (Seat N X)) → option_map state (option_map (λ (seat : Seat N X). seat.node) o) ≡ option_map state_in o
      twice None = refl
      twice (Some seat) = refl

  -- an empty queue is nothing that waits
  pub queue_waits : (seats : List (Seat N X)) (queue : List (ArcId × X)) → queue ≡ [] → Drained (queued_machine state note seats queue)
  queue_waits seats queue e a = rw e refl

  -- what is first in the queue is in front of its arc
  front_is : (seats : List (Seat N X)) (queue rest : List (ArcId × X)) (arc : ArcId) (m : X) → queue ≡ (arc, m) ∷ rest → (queued_machine state note seats queue).link arc.0 ≡ note m ∷ on_arc arc.0 (map (noted note) rest)
  front_is seats queue rest arc m e = rw (e, same_test arc.0) refl

  module _ (k : Kind S M) (net : PureNet) (seats : List (Seat N X)) (queue rest : List (ArcId × X)) (arc : ArcId) (m : X) (first : queue ≡ (arc, m) ∷ rest)
      (running : IsRunning k net (queued_machine state note seats queue)) where
    pub front_within : arc.0 < length net.arcs
    front_within = by (cases_lt arc.0 (length net.arcs))
      where
        by : ((arc.0 < length net.arcs) ⊎ (length net.arcs ≤ arc.0)) → arc.0 < length net.arcs
        by (inl less) = less
        by (inr past) = let clash : note m ∷ on_arc arc.0 (map (noted note) rest) ≡ [] = sym (front_is seats queue rest arc m first) ∙ running.on_arcs arc.0 past in absurd (cc)

    module _ (is_net : IsNet net) (i : ℕ) (listens : listener net arc.0 ≡ Some i) where
      pub listener_within : i < length seats
      listener_within = by (slice_get seats i) refl
        where
          by : (o : Option (Seat N X)) → slice_get seats i ≡ o → i < length seats
          by (Some seat) e = slice_get_within seats i seat e
          by None e =
              let there = running.there i (hearer_within net is_net arc.0 i listens) in
              let clash : None ≡ Some there.0 = sym (ap (option_map state_in) e) ∙ there.1 in
              absurd (cc)

      module _ (seat : Seat N X) (stands : slice_get seats i ≡ Some seat) where
        -- the clock that its listener gets isn't above the greatest
        pub clock_early : ((a t : ℕ) → front_clock k net (queued_machine state note seats queue) a ≡ Some t → t ≤ MAX_CLOCK) → max seat.clock (k.stamp (note m)) + 1 ≤ MAX_CLOCK
        clock_early early = early arc.0 (max seat.clock (k.stamp (note m)) + 1) (rw (listens, front_is seats queue rest arc m first, stands) refl)

        pub can_hear : (clock : ℕ) → clock ≡ max seat.clock (k.stamp (note m)) + 1 → clock ≤ MAX_CLOCK → CanHear k (state seat.node) seat.clock arc.0 (note m) clock
        can_hear clock timed early =
            let at = running.each i (state seat.node) (ap (option_map state_in) stands) in
            record {
              begun = at.begun;
              last_is = at.last_is ∙ ap clock_in stands;
              listens = rw (at.net_is, at.number_is) listens;
              timed = timed;
              early = early;
            }

        pub delivered : (clock : ℕ) (next : Seat N X) (out queue' : List (ArcId × X)) (sent : ℕ) → clock ≡ max seat.clock (k.stamp (note m)) + 1 → next.clock ≡ clock → next.log ≡ seat.log ++ record { clock = clock; arc = arc } ∷ []
            → state next.node ≡ (k.step (state seat.node) arc.0 (note m) clock).0 → map (noted note) out ≡ (k.step (state seat.node) arc.0 (note m) clock).1 → queue' ≡ rest ++ out → sent ≡ length out
            → HasDelivered k net (queued_machine state note seats queue) (queued_log seats) sent (queued_machine state note (slice_set seats i next) queue') (queued_log (slice_set seats i next))
        delivered clock next out queue' sent timed clock_is log_is node_is out_is put count =
            record {
              made = record { clock = clock; arc = arc };
              number = i;
              node = state seat.node;
              message = note m;
              out = map (noted note) out;
              listens = listens;
              was = ap (option_map state_in) stands;
              timed = timed ∙ ap (λ o. max (clock_in o) (k.stamp (note m)) + 1) (sym stands);
              out_is = out_is;
              count = length-map out (noted note) ∙ sym count;
              node_is = λ j. found_set (option_map state_in) seats i next seat stands j ∙ ap (λ s. changed_at (queued_machine state note seats queue).node i (Some s) j) node_is;
              clock_is = λ j. found_set clock_in seats i next seat stands j ∙ ap (λ t. changed_at (queued_machine state note seats queue).clock i t j) clock_is;
              log_is = λ j. found_set log_in seats i next seat stands j ∙ ap (λ l. changed_at (queued_log seats) i l j) (log_is ∙ ap (λ l. l ++ record { clock = clock; arc = arc } ∷ []) (sym (ap log_in stands)));
              link_is = λ b. split b;
            }
          where
            joined : (b : ℕ) → on_arc b (map (noted note) queue') ≡ on_arc b (map (noted note) rest) ++ on_arc b (map (noted note) out)
            joined b = ap (λ q. on_arc b (map (noted note) q)) put ∙ (ap (on_arc b) (map-append (noted note) rest out) ∙ on_arc_join b (map (noted note) rest) (map (noted note) out))

            shifted : (t : Bool) (w : M) (xs ys : List M) → cond t (w ∷ xs) xs ++ ys ≡ cond t (w ∷ []) [] ++ (xs ++ ys)
            shifted true w xs ys = refl
            shifted false w xs ys = refl

            split : (b : ℕ) → on_arc b (map (noted note) queue) ++ on_arc b (map (noted note) out) ≡ cond (arc.0 == b) (note m ∷ []) [] ++ on_arc b (map (noted note) queue')
            split b = ap (λ q. on_arc b (map (noted note) q) ++ on_arc b (map (noted note) out)) first
                ∙ (shifted (arc.0 == b) (note m) (on_arc b (map (noted note) rest)) (on_arc b (map (noted note) out)) ∙ ap (λ l. cond (arc.0 == b) (note m ∷ []) [] ++ l) (sym (joined b)))

  -- what waits on one link, in the queue
  one_link : (a n : ℕ) (waits : List X) → on_arc a (map (noted note) (map (on_its_arc n) waits)) ≡ cond (n == a) (map note waits) []
  one_link a n [] = by (n == a)
    where
      by : (t : Bool) → [] ≡ cond {A = List M} t [] []
      by true = refl
      by false = refl
  one_link a n (m ∷ waits) = by (n == a) refl (one_link a n waits)
    where
      rest : List M
      rest = on_arc a (map (noted note) (map (on_its_arc n) waits))

      by : (t : Bool) → (n == a) ≡ t → rest ≡ cond (n == a) (map note waits) [] → cond t (note m ∷ rest) rest ≡ cond t (note m ∷ map note waits) []
      by true e same = ap (λ l. note m ∷ l) (same ∙ rw e refl)
      by false e same = same ∙ rw e refl

  both_links : (a n : ℕ) (link : VecDeque X Global) (links : List (VecDeque X Global)) → on_arc a (map (noted note) (queue_from n (link ∷ links))) ≡ cond (n == a) (map note link.items) [] ++ on_arc a (map (noted note) (queue_from (n + 1) links))
  both_links a n link links =
      ap (on_arc a) (map-append (noted note) (map (on_its_arc n) link.items) (queue_from (n + 1) links))
      ∙ (on_arc_join a (map (noted note) (map (on_its_arc n) link.items)) (map (noted note) (queue_from (n + 1) links))
      ∙ ap (λ l. l ++ on_arc a (map (noted note) (queue_from (n + 1) links))) (one_link a n link.items))

  none_below : (a n : ℕ) (links : List (VecDeque X Global)) → a < n → on_arc a (map (noted note) (queue_from n links)) ≡ []
  none_below a n [] below = refl
  none_below a n (link ∷ links) below =
      let other : (n == a) ≡ false = false_from_ne_true (n == a) (λ e. let same : n ≡ a = eqb-true n a e in absurd (omega (arith, same, below))) in
      both_links a n link links ∙ (rw other (none_below a (n + 1) links (omega (arith, below))))

  on_link : (n i : ℕ) (links : List (VecDeque X Global)) → on_arc (n + i) (map (noted note) (queue_from n links)) ≡ map note (waits_on links i)
  on_link n i [] = refl
  on_link n zero (link ∷ links) =
      let same : n + 0 ≡ n = omega arith in
      subst (λ a. on_arc a (map (noted note) (queue_from n (link ∷ links))) ≡ map note link.items) (sym same)
      (both_links n n link links ∙ (rw (same_test n, none_below n (n + 1) links (omega arith)) (append-nil (map note link.items))))
  on_link n (suc i) (link ∷ links) =
      let other : (n == n + suc i) ≡ false = false_from_ne_true (n == n + suc i) (λ e. let same : n ≡ n + suc i = eqb-true n (n + suc i) e in absurd (omega (arith, same))) in
      let shift : n + suc i ≡ n + 1 + i = omega arith in
      both_links (n + suc i) n link links ∙ (rw other (ap (λ a. on_arc a (map (noted note) (queue_from (n + 1) links))) shift ∙ on_link (n + 1) i links))

  module _ (k : Kind S M) (net : PureNet) (turns : ℕ) (c : Machine S M) (started : Started N X) (is : IsStarted state note k net c started) (seats : List (Seat N X)) (queue : List (ArcId × X))
      (seats_are : seats ≡ map fresh_seat started.nodes) (queue_is : queue ≡ queue_from 0 started.links.items) where
    fresh_node : (o : Option N) → option_map state_in (option_map fresh_seat o) ≡ option_map state o
    fresh_node None = refl
    fresh_node (Some n) = refl

    fresh_clock : (o : Option N) → clock_in {N = N} {X = X} (option_map fresh_seat o) ≡ 0
    fresh_clock None = refl
    fresh_clock (Some n) = refl

    fresh_log : (o : Option N) → log_in {N = N} {X = X} (option_map fresh_seat o) ≡ []
    fresh_log None = refl
    fresh_log (Some n) = refl

    found : (i : ℕ) → slice_get seats i ≡ option_map fresh_seat (slice_get started.nodes i)
    found i = ap (λ (l : List (Seat N X)). slice_get l i) seats_are ∙ slice_get-map fresh_seat started.nodes i

    whole : (a : ℕ) → on_arc a (map (noted note) (queue_from 0 started.links.items)) ≡ map note (waits_on started.links.items a)
    whole a = let same : 0 + a ≡ a = omega arith in subst (λ b. on_arc b (map (noted note) (queue_from 0 started.links.items)) ≡ map note (waits_on started.links.items a)) same (on_link 0 a started.links.items)

    same : queued_machine state note seats queue ≡ c
    same = same_machine c (queued_machine state note seats queue)
        (λ i. ap (option_map state_in) (found i) ∙ (fresh_node (slice_get started.nodes i) ∙ sym (is.nodes_are i)))
        (λ i. ap clock_in (found i) ∙ (fresh_clock (slice_get started.nodes i) ∙ sym (is.clock_is i)))
        (λ a. ap (λ q. on_arc a (map (noted note) q)) queue_is ∙ (whole a ∙ sym (is.links_are a)))

    pub queued_gone : HasGone k net turns c (queued_machine state note seats queue) (queued_log seats) (record { sent = started.waiting; taken = 0 })
    queued_gone = gone_first k net turns c (queued_machine state note seats queue) (queued_log seats) (record { sent = started.waiting; taken = 0 }) same is.running
        (λ i. ap log_in (found i) ∙ fresh_log (slice_get started.nodes i)) is.waiting refl
