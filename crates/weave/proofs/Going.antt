-- How far a phase has come, and how it ends, whoever makes its deliveries.
use Rattle.std.proofs.Common.{ltb, ◌≡◌, ℕ, zero, suc, ◌+◌, ◌*◌, ◌<◌, ◌≤◌, ◌^◌, Bool, true, false, List, [], ◌∷◌, ◌++◌, Option, Some, None, map, length, length-append, refl, sym, ap, subst, ◌∙◌, arith, inl, inr}
use Rattle.std.specs.Prelude.{◌==◌}
use Rattle.std.specs.List.{AllByRecursion, range_with_len}
use Rattle.std.proofs.lemmas.Bool.{eqb-true, eqb-false}
use Rattle.std.proofs.lemmas.Bool.Decides.{nat_tests}
use mathlib.Core.Path.{fun_ext}
use Rattle.meta_base.specs.declared.ids.Delivery.{Delivery}
use Rattle.net_graph.specs.Nets.{PureNet, IsNet}
use Rattle.net_graph.specs.declared.limits.TheConstants.{MAX_ARCS}
use Rattle.node_core.specs.declared.node.TheConstants.{MAX_CLOCK}
use Rattle.node_core.specs.Kinds.{Kind, IsLawful}
use Rattle.node_core.specs.Machine.{Machine, Start, Drained, Ordered, Replay, SentIn, front_clock, replay_from}
use Rattle.node_core.specs.OrderLaws.{front_up_to}
use Rattle.node_core.specs.Running.{AreUpTo, IsRunning}
use Rattle.quiet_ledger.specs.declared.book.TheConstants.{MAX_BASE}
use Rattle.quiet_ledger.specs.declared.totals.Totals.{Totals}
use Rattle.journal_merge.specs.declared.log.NodeLog.{NodeLog}
use Rattle.journal_merge.specs.Merging.{AreOfDifferentNodes, ClocksAscend, IsMerged}
use Rattle.woven_laws.specs.Histories.{Taken, entry_of, put_out, option_out, option_after}
use Rattle.woven_laws.specs.HistoryLaws.{option_out_join, woven_same, woven_then}
use Rattle.woven_laws.specs.Woven.{Woven, IsMergeOf}
use Rattle.woven_laws.specs.ClockLaws.{woven_up_to}
use Rattle.woven_laws.specs.Counts.{total, sent_by_all, taken_by_all, waiting_on}
use Rattle.woven_laws.specs.CountLaws.{total_same, total_plus, total_below}
use Rattle.woven_laws.specs.MergedLogs.{logs_of, logs_mergeable, timed_ascends, merged_is, merged_count}
use Rattle.weave.specs.Going.{HasEnded, HasGone, IsOver}
use Rattle.weave.specs.Phases.{IsPhaseEnd}
use Rattle.weave.proofs.Runs.{map_join, none_sent, none_taken}
use Rattle.weave.proofs.Working.{few_sent}
use Rattle.weave.proofs.Round.{woven_runs, none_waiting, drained_waits}

-- machines are one where they are so node by node and arc by arc
pub same_machine : {S M : Type 0} (c d : Machine S M) → ((i : ℕ) → d.node i ≡ c.node i) → ((i : ℕ) → d.clock i ≡ c.clock i) → ((a : ℕ) → d.link a ≡ c.link a) → d ≡ c
same_machine c d node clock link =
    let node_is : d.node ≡ c.node = fun_ext node in
    let clock_is : d.clock ≡ c.clock = fun_ext clock in
    let link_is : d.link ≡ c.link = fun_ext link in
    λ x. record { node = node_is x; clock = clock_is x; link = link_is x }

module _ {S M : Type 0} (k : Kind S M) (net : PureNet) (turns : ℕ) (c : Machine S M) where
  -- before any delivery
  pub gone_first : (d : Machine S M) (log : ℕ → List Delivery) (totals : Totals) → d ≡ c → IsRunning k net c → ((i : ℕ) → log i ≡ []) → totals.sent ≡ waiting_on net c → totals.taken ≡ 0 → HasGone k net turns c d log totals
  gone_first d log totals same running none sent taken =
      let unsent = none_sent k net c.node in
      let untaken = none_taken k net M in
      record {
        history = λ i. [];
        woven = subst (Woven k net c (λ i. [])) (sym same) (woven_same k net c);
        running = subst (IsRunning k net) (sym same) running;
        log_is = none;
        sent = omega (arith, sent, unsent);
        taken = omega (arith, taken, untaken);
        few = omega (arith, taken);
      }

module _ {S M : Type 0} (k : Kind S M) (lawful : IsLawful k) (net : PureNet) (is_net : IsNet net) (turns : ℕ) (c : Machine S M) where
  module _ (d : Machine S M) (h g : ℕ → List (Taken M)) (w : Woven k net c h d) where
    both_out : (i : ℕ) → length (option_out k (c.node i) (h i ++ g i)) ≡ length (option_out k (c.node i) (h i)) + length (option_out k (d.node i) (g i))
    both_out i =
        ap length (option_out_join k (c.node i) (h i) (g i))
        ∙ (length-append (option_out k (c.node i) (h i)) (option_out k (option_after k (c.node i) (h i)) (g i))
        ∙ ap (λ o. length (option_out k (c.node i) (h i)) + length (option_out k o (g i))) (sym (w.node_is i)))

    sent_on : sent_by_all k net c.node (λ i. h i ++ g i) ≡ sent_by_all k net c.node h + sent_by_all k net d.node g
    sent_on =
        total_same (length net.nodes) (λ i. length (option_out k (c.node i) (h i ++ g i))) (λ i. length (option_out k (c.node i) (h i)) + length (option_out k (d.node i) (g i))) (λ i lt. both_out i)
        ∙ total_plus (length net.nodes) (λ i. length (option_out k (c.node i) (h i))) (λ i. length (option_out k (d.node i) (g i)))

    taken_on : taken_by_all net (λ i. h i ++ g i) ≡ taken_by_all net h + taken_by_all net g
    taken_on =
        total_same (length net.nodes) (λ i. length (h i ++ g i)) (λ i. length (h i) + length (g i)) (λ i lt. length-append (h i) (g i))
        ∙ total_plus (length net.nodes) (λ i. length (h i)) (λ i. length (g i))

  -- and after some more, which the nodes took and logged and the totals count
  pub gone_on : (d e : Machine S M) (log more : ℕ → List Delivery) (before after : Totals) (left : ℕ) (g : ℕ → List (Taken M)) → HasGone k net turns c d log before → left + before.taken ≤ turns → Woven k net d g e
      → ((i : ℕ) → more i ≡ log i ++ map entry_of (g i)) → after.sent ≡ before.sent + sent_by_all k net d.node g → after.taken ≡ before.taken + taken_by_all net g → taken_by_all net g ≤ left
      → HasGone k net turns c e more after
  gone_on d e log more before after left g a room woven logged s2 t2 few =
      let s1 = a.sent in
      let s3 = sent_on d a.history g a.woven in
      let t1 = a.taken in
      let t3 = taken_on d a.history g a.woven in
      record {
        history = λ i. a.history i ++ g i;
        woven = woven_then k net c d e a.history g a.woven woven;
        running = woven_runs k net lawful d e g a.running woven;
        log_is = λ i. logged i ∙ (ap (λ l. l ++ map entry_of (g i)) (a.log_is i) ∙ sym (map_join entry_of (a.history i) (g i)));
        sent = omega (arith, s1, s2, s3);
        taken = omega (arith, t1, t2, t3);
        few = omega (arith, t2, few, room);
      }

  module _ (d : Machine S M) (log : ℕ → List Delivery) (totals : Totals) (gone : HasGone k net turns c d log totals) where
    -- no clock is above the number of messages that were taken
    up_to_taken : IsRunning k net c → AreUpTo k c 0 → AreUpTo k d totals.taken
    up_to_taken running up =
        let t = gone.taken in
        subst (AreUpTo k d) (omega (arith, t)) (woven_up_to k lawful net is_net c d gone.history gone.woven running 0 up)

    -- so where turns are left, the next clock isn't above the greatest
    pub next_early : IsRunning k net c → AreUpTo k c 0 → turns ≤ MAX_CLOCK → (totals.taken ≡ turns → ⊥) → (a t : ℕ) → front_clock k net d a ≡ Some t → t ≤ MAX_CLOCK
    next_early running up few left a t front =
        by (ltb totals.taken turns) refl
      where
        by : (b : Bool) → ltb totals.taken turns ≡ b → t ≤ MAX_CLOCK
        by true h =
            let less : totals.taken < turns = grind (arith, nat_tests) in
            let next = front_up_to k lawful net d a t totals.taken (up_to_taken running up) front in
            omega (arith, less, next, few)
        by false h =
            let past : turns ≤ totals.taken = grind (arith, nat_tests) in
            let most = gone.few in
            absurd (left (omega (arith, past, most)))

    -- and where not all was taken that was sent, something waits
    pub something_waits : (waiting_on net c + sent_by_all k net c.node gone.history ≡ taken_by_all net gone.history + waiting_on net d) → (totals.sent ≡ totals.taken → ⊥) → ¬ Drained d
    something_waits sum differ drained =
        let none = drained_waits net d drained in
        let s = gone.sent in
        let t = gone.taken in
        differ (omega (arith, sum, none, s, t))

  -- no more is sent than each taken message can make
  put_few : (s : S) (history : List (Taken M)) → k.net s ≡ net → k.is_begun s ≡ true → length (put_out k s history) ≤ length history * MAX_ARCS
  put_few s [] same begun = omega arith
  put_few s (h ∷ history) same begun =
      let later = lawful.steps s h.arc h.message h.clock begun in
      let next = (k.step s h.arc h.message h.clock).0 in
      let rest = put_few next history (later.net ∙ same) later.begun in
      let one = few_sent k net lawful is_net s h.arc h.message h.clock same in
      let len = length-append (k.step s h.arc h.message h.clock).1 (put_out k next history) in
      omega (arith, rest, one, len)

  out_few : IsRunning k net c → (history : ℕ → List (Taken M)) (i : ℕ) → length (option_out k (c.node i) (history i)) ≤ length (history i) * MAX_ARCS
  out_few running history i = by (c.node i) refl
    where
      by : (o : Option S) → c.node i ≡ o → length (option_out k o (history i)) ≤ length (history i) * MAX_ARCS
      by None e = omega arith
      by (Some s) e = let at = running.each i s e in put_few s (history i) at.net_is at.begun

  total_times : (n : ℕ) (f : ℕ → ℕ) → total n (λ i. f i * MAX_ARCS) ≡ total n f * MAX_ARCS
  total_times zero f = refl
  total_times (suc n) f = let r = total_times n f in omega (arith, r)

  pub sent_small : (d : Machine S M) (log : ℕ → List Delivery) (totals : Totals) → IsRunning k net c → HasGone k net turns c d log totals → turns ≤ MAX_CLOCK → waiting_on net c ≤ 2 ^ 20
      → (totals.sent ≤ MAX_BASE) × (totals.taken ≤ MAX_BASE)
  sent_small d log totals running a few begun =
      let each = total_below (length net.nodes) (λ i. length (option_out k (c.node i) (a.history i))) (λ i. length (a.history i) * MAX_ARCS) (λ i lt. out_few running a.history i) in
      let all = total_times (length net.nodes) (λ i. length (a.history i)) in
      let s = a.sent in
      let t = a.taken in
      let u = a.few in
      (omega (arith, each, all, s, t, u, few, begun), omega (arith, u, few))

-- what ends makes a phase, once its logs are merged
module _ {S M : Type 0} (k : Kind S M) (net : PureNet) (turns : ℕ) (nodes : List S) (running : IsRunning k net (Start k nodes)) (ended : List S) (logs : List NodeLog) (totals : Totals)
    (e : HasEnded k net turns (Start k nodes) ended logs totals) where
  logs_are : logs ≡ logs_of e.gone.history (length net.nodes)
  logs_are = e.logs_are ∙ ap (λ f. map f (range_with_len 0 (length net.nodes))) (fun_ext (λ i. ap (λ l. record { node = record { 0 = i }; entries = l }) (e.gone.log_is i)))

  clocks : (i : ℕ) → ClocksAscend (map entry_of (e.gone.history i))
  clocks i = (timed_ascends k ((Start k nodes).clock i) (e.gone.history i) (e.gone.woven.timed i)).0

  pub mergeable : AreOfDifferentNodes logs × AllByRecursion (λ (log : NodeLog). ClocksAscend log.entries) logs
  mergeable = logs_mergeable e.gone.history (length net.nodes) logs logs_are clocks

  -- The laws of merged histories and of counts are stated by the crate that proves them.
  pub phase_ends : ((c d : Machine S M) (history : ℕ → List (Taken M)) (journal : List Delivery) → Woven k net c history d → IsMergeOf net history journal → Ordered net journal → replay_from k net c journal ≡ Some d)
      → ((journal : List Delivery) (c : Machine S M) → Replay k net nodes journal ≡ Some c → SentIn k net nodes journal ≡ length journal + waiting_on net c)
      → ((d : Machine S M) (history : ℕ → List (Taken M)) → Woven k net (Start k nodes) history d → waiting_on net (Start k nodes) + sent_by_all k net (Start k nodes).node history ≡ taken_by_all net history + waiting_on net d)
      → (journal : List Delivery) → IsMerged logs journal → (quiet : Bool) → quiet ≡ (totals.sent == totals.taken)
      → IsPhaseEnd k net nodes turns journal ended totals quiet
  phase_ends replays counts woven_counts journal merged quiet is =
      let a = e.gone in
      let d = e.end in
      let merge = merged_is net a.history (length net.nodes) logs journal logs_are (λ i past. a.woven.none_takes i (running.past i past)) a.woven.heard clocks merged in
      let replayed = replays (Start k nodes) d a.history journal a.woven merge.0 merge.1 in
      let len = merged_count net a.history (length net.nodes) logs journal logs_are merged in
      let sent_in = counts journal d replayed in
      let sum = woven_counts d a.history a.woven in
      let s = a.sent in
      let t = a.taken in
      let few = a.few in
      let all : totals.sent ≡ totals.taken + waiting_on net d = omega (arith, s, t, sum) in
      let taken : totals.taken ≡ length journal = omega (arith, t, len) in
      record {
        end = d;
        phase = record {
          ordered = merge.1;
          replayed = replayed;
          few = omega (arith, taken, few);
          drained = λ q. none_waiting net d (left all (agree (sym is ∙ q))) a.running.on_arcs;
          spent = λ q. spent all taken e.over (sym is ∙ q);
        };
        nodes_are = e.nodes_are;
        sent = omega (arith, all, taken, sent_in);
        taken = taken;
        agrees = is;
      }
    where
      agree : (totals.sent == totals.taken) ≡ true → totals.sent ≡ totals.taken
      agree same = eqb-true totals.sent totals.taken same

      left : totals.sent ≡ totals.taken + waiting_on net e.end → totals.sent ≡ totals.taken → waiting_on net e.end ≡ 0
      left all same = omega (arith, all, same)

      spent : totals.sent ≡ totals.taken + waiting_on net e.end → totals.taken ≡ length journal → IsOver turns totals → (totals.sent == totals.taken) ≡ false → (¬ Drained e.end) × (length journal ≡ turns)
      spent all taken (inl same) test = absurd (eqb-false totals.sent totals.taken test same)
      spent all taken (inr used) test = ((λ drained. let none = drained_waits net e.end drained in eqb-false totals.sent totals.taken test (omega (arith, all, none))), omega (arith, taken, used))
