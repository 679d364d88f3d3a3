-- A phase of several workers, from its start to its end.
use Rattle.std.proofs.Common.{ltb, ◌≡◌, ℕ, ◌+◌, ◌<◌, ◌≤◌, ◌^◌, Bool, true, false, List, Some, slice_get, map, length, refl, sym, ap, subst, ◌∙◌, arith}
use Rattle.std.proofs.lemmas.Bool.Decides.{nat_tests}
use Rattle.std.proofs.lemmas.List.{length-map}
use Rattle.std.proofs.lemmas.Option.{slice_get_past}
use Rattle.meta_base.specs.declared.ids.Delivery.{Delivery}
use Rattle.net_graph.specs.Nets.{PureNet, IsNet}
use Rattle.node_core.specs.declared.node.TheConstants.{MAX_CLOCK}
use Rattle.node_core.specs.Kinds.{Kind, IsLawful}
use Rattle.node_core.specs.Machine.{Machine, Drained, front_clock}
use Rattle.node_core.specs.Running.{AreUpTo, IsRunning}
use Rattle.quiet_ledger.specs.declared.book.TheConstants.{MAX_BASE}
use Rattle.quiet_ledger.specs.declared.totals.Totals.{Totals}
use Rattle.journal_merge.specs.declared.log.NodeLog.{NodeLog}
use Rattle.woven_laws.specs.Histories.{Taken}
use Rattle.woven_laws.specs.Woven.{Woven}
use Rattle.woven_laws.specs.Counts.{sent_by_all, taken_by_all, waiting_on}
use Rattle.weave.specs.declared.started.Started.{Started}
use Rattle.weave.specs.Apart.{logs_across, AreThere, AreNodesOf}
use Rattle.weave.specs.Between.{IsOneRound}
use Rattle.weave.specs.Dealt.{IsDealt}
use Rattle.weave.specs.Gathered.{block_of, machine_across}
use Rattle.weave.specs.Going.{HasEnded, IsOver}
use Rattle.weave.specs.Rounds.{IsRound, HasCome}
use Rattle.weave.specs.Started.{IsStarted}
use Rattle.weave.specs.Views.{View}
use Rattle.weave.proofs.Going.{gone_first, gone_on, next_early, same_machine, sent_small, something_waits}

module _ {S M : Type 0} (k : Kind S M) (lawful : IsLawful k) (net : PureNet) (is_net : IsNet net) (count turns : ℕ) where
  abbrev log_of : (ℕ → View S M) → ℕ → List Delivery
  log_of views i = (views (block_of count i)).log i

  -- before any round
  pub first_come : {N X : Type 0} (state : N → S) (note : X → M) (c : Machine S M) (started : Started N X) → IsStarted state note k net c started → (views : ℕ → View S M) → IsDealt note net count state started.nodes started.links.items views
      → HasCome k net count turns c views (record { sent = started.waiting; taken = 0 })
  first_come state note c started is views dealt =
      record {
        gone = gone_first k net turns c (machine_across net count views) (log_of views) (record { sent = started.waiting; taken = 0 })
            (same_machine c (machine_across net count views) (λ i. dealt.node_is i ∙ sym (is.nodes_are i)) (λ i. dealt.clock_is i ∙ sym (is.clock_is i)) (λ b. dealt.link_is b ∙ sym (is.links_are b)))
            is.running dealt.log_is is.waiting refl;
        gathered = dealt.gathered;
      }

  -- and after one round more
  pub come_on : (c : Machine S M) (old new : ℕ → View S M) (before after : Totals) (left : ℕ) → HasCome k net count turns c old before → left + before.taken ≤ turns → IsRound k net count left old new before after
      → HasCome k net count turns c new after
  come_on c old new before after left a is b =
      record {
        gone = gone_on k lawful net is_net turns c (machine_across net count old) (machine_across net count new) (log_of old) (log_of new) before after left b.history a.gone is b.woven b.log_is b.sent b.taken b.few;
        gathered = b.gathered;
      }

  -- and after one delivery between two rounds
  pub come_one : (c : Machine S M) (old new : ℕ → View S M) (before after : Totals) (sent blocks : ℕ) → blocks ≡ count → HasCome k net count turns c old before → (before.taken ≡ turns → ⊥) → IsOneRound k net blocks old new sent
      → after.sent ≡ before.sent + sent → after.taken ≡ before.taken + 1 → HasCome k net count turns c new after
  come_one c old new before after sent blocks same a left one s t =
      let most = a.gone.few in
      come_on c old new before after 1 a (omega (arith, most, left)) (subst (λ n. IsRound k net n 1 old new before after) same (one before after s t))

  module _ (c : Machine S M) (views : ℕ → View S M) (totals : Totals) (come : HasCome k net count turns c views totals) where
    pub come_early : IsRunning k net c → AreUpTo k c 0 → turns ≤ MAX_CLOCK → (totals.taken ≡ turns → ⊥) → (a t : ℕ) → front_clock k net (machine_across net count views) a ≡ Some t → t ≤ MAX_CLOCK
    come_early = next_early k lawful net is_net turns c (machine_across net count views) (log_of views) totals come.gone

    pub come_waits : ((d : Machine S M) (history : ℕ → List (Taken M)) → Woven k net c history d → waiting_on net c + sent_by_all k net c.node history ≡ taken_by_all net history + waiting_on net d)
        → (totals.sent ≡ totals.taken → ⊥) → ¬ Drained (machine_across net count views)
    come_waits counts = something_waits k lawful net is_net turns c (machine_across net count views) (log_of views) totals come.gone (counts (machine_across net count views) come.gone.history come.gone.woven)

    pub come_small : IsRunning k net c → turns ≤ MAX_CLOCK → waiting_on net c ≤ 2 ^ 20 → (totals.sent ≤ MAX_BASE) × (totals.taken ≤ MAX_BASE)
    come_small running few begun = sent_small k lawful net is_net turns c (machine_across net count views) (log_of views) totals running come.gone few begun

  -- the nodes of a running machine, by blocks
  pub all_there : (views : ℕ → View S M) → IsRunning k net (machine_across net count views) → (count' : ℕ) → count' ≡ count → AreThere count' views (length net.nodes)
  all_there views running count' same = subst (λ n. AreThere n views (length net.nodes)) (sym same) running.there

  module _ {N : Type 0} (state : N → S) (views : ℕ → View S M) (nodes : List N) (count' : ℕ) (same : count' ≡ count) (are : AreNodesOf state count' views (length net.nodes) nodes) where
    nodes_all : IsRunning k net (machine_across net count views) → (i : ℕ) → (machine_across net count views).node i ≡ slice_get (map state nodes) i
    nodes_all running i = by (ltb i (length net.nodes)) refl
      where
        by : (b : Bool) → ltb i (length net.nodes) ≡ b → (machine_across net count views).node i ≡ slice_get (map state nodes) i
        by true t =
            let within : i < length net.nodes = grind (arith, nat_tests) in
            subst (λ n. (views (block_of n i)).node i ≡ slice_get (map state nodes) i) same (sym (are.node_is i within))
        by false t =
            let past : length net.nodes ≤ i = grind (arith, nat_tests) in
            let len : length (map state nodes) ≡ length net.nodes = length-map nodes state ∙ are.count_is in
            running.past i past ∙ sym (slice_get_past (map state nodes) i (subst (λ n. n ≤ i) (sym len) past))

    pub come_ended : (c : Machine S M) (totals : Totals) (logs : List NodeLog) → HasCome k net count turns c views totals → logs ≡ logs_across count' views (length net.nodes) → IsOver turns totals → HasEnded k net turns c (map state nodes) logs totals
    come_ended c totals logs come logs_are over =
        record {
          end = machine_across net count views;
          log = log_of views;
          gone = come.gone;
          nodes_are = nodes_all come.gone.running;
          logs_are = logs_are ∙ ap (λ n. logs_across n views (length net.nodes)) same;
          over = over;
        }
