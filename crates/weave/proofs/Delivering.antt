-- A delivery among nodes that one worker runs is one more that they took.
use Rattle.std.proofs.Common.{◌≡◌, ℕ, ◌+◌, ◌≤◌, false, List, [], Some, None, length, slice_get, option_map, sym, ap, ◌∙◌, arith}
use Rattle.std.specs.Prelude.{◌==◌}
use Rattle.std.proofs.lemmas.Bool.{eqb-true, false_from_ne_true}
use Rattle.std.proofs.lemmas.Option.{slice_get_past}
use Rattle.meta_base.specs.declared.ids.Delivery.{Delivery}
use Rattle.net_graph.specs.Nets.{PureArc, PureNet, IsNet}
use Rattle.net_graph.specs.declared.limits.TheConstants.{MAX_ARCS}
use Rattle.node_core.specs.Kinds.{Kind, IsLawful, listener, on_arc, speaker}
use Rattle.node_core.specs.Machine.{Machine}
use Rattle.node_core.specs.MachineLaws.{on_arc_none}
use Rattle.node_core.specs.Running.{IsRunning}
use Rattle.quiet_ledger.specs.declared.totals.Totals.{Totals}
use Rattle.woven_laws.specs.Delivered.{HasDelivered}
use Rattle.woven_laws.specs.Histories.{Taken}
use Rattle.woven_laws.specs.Woven.{Woven}
use Rattle.weave.specs.Going.{HasGone}
use Rattle.weave.specs.Lanes.{inside}
use Rattle.weave.specs.Views.{View, AreSeated, HasRun, HasTaken}
use Rattle.weave.proofs.Going.{gone_on}
use Rattle.weave.proofs.Runs.{one, one_taken, run_taken, sent_taken, spoken_out}
use Rattle.weave.proofs.Working.{few_sent}

-- the nodes as one block, which has all of every arc
abbrev view_on : {S M : Type 0} → Machine S M → (ℕ → List Delivery) → View S M
view_on c log = record { node = c.node; clock = c.clock; log = log; lane = λ a. inside (c.link a) }

module _ {S M : Type 0} (k : Kind S M) (lawful : IsLawful k) (net : PureNet) (is_net : IsNet net) (c d : Machine S M) (before after : ℕ → List Delivery) (sent : ℕ)
    (x : HasDelivered k net c before sent d after) (running : IsRunning k net c) where
  abbrev taken : HasTaken k net (view_on c before) x.made x.out x.out (view_on d after)
  taken =
      record {
        number = x.number;
        node = x.node;
        message = x.message;
        listens = x.listens;
        was = x.was;
        timed = x.timed;
        out_is = x.out_is;
        node_is = x.node_is;
        clock_is = x.clock_is;
        log_is = x.log_is;
        lane_is = x.link_is;
      }

  seated : AreSeated k net (view_on c before)
  seated i s e = let at = running.each i s e in record { net_is = at.net_is; number_is = at.number_is; begun = at.begun; last_is = at.last_is }

  abbrev history : ℕ → List (Taken M)
  history = one k net lawful is_net (view_on c before) (view_on d after) x.made x.out seated taken

  ran : HasRun k net (view_on c before) history (view_on d after)
  ran = run_taken k net lawful is_net (view_on c before) (view_on d after) x.made x.out seated taken

  pub sent_few : sent ≤ MAX_ARCS
  sent_few =
      let most = few_sent k net lawful is_net x.node x.made.arc.0 x.message x.made.clock (running.each x.number x.node x.was).net_is in
      let out_len = ap length x.out_is in
      let count = x.count in
      omega (arith, most, out_len, count)

  -- past the network's arcs nothing waits
  none_past : (a : ℕ) → length net.arcs ≤ a → d.link a ≡ []
  none_past a past =
      let gone : slice_get net.arcs a ≡ None = slice_get_past net.arcs a past in
      let nobody : speaker net a ≡ Some x.number → ⊥ = λ e. let clash : None ≡ Some x.number = sym (ap (option_map (λ (y : PureArc). y.head)) gone) ∙ e in absurd (cc) in
      let spoken = spoken_out k net lawful is_net (view_on c before) (view_on d after) x.made x.out seated taken in
      let unsent : on_arc a x.out ≡ [] = ap (on_arc a) x.out_is ∙ on_arc_none (λ b. speaker net b ≡ Some x.number) a nobody (k.step x.node x.made.arc.0 x.message x.made.clock).1 spoken in
      let other : (x.made.arc.0 == a) ≡ false = false_from_ne_true (x.made.arc.0 == a) (λ e.
      let same : x.made.arc.0 ≡ a = eqb-true x.made.arc.0 a e in
      let clash : None ≡ Some x.number = sym (ap (option_map (λ (y : PureArc). y.tail)) gone) ∙ (ap (listener net) (sym same) ∙ x.listens) in absurd (cc)) in
      sym (rw (running.on_arcs a past, unsent, other) at (x.link_is a))

  woven : Woven k net c history d
  woven =
      record {
        node_is = ran.node_is;
        none_takes = ran.none_takes;
        clock_is = ran.clock_is;
        timed = ran.timed;
        heard = ran.heard;
        spoken = ran.spoken;
        link_is = ran.lane_is;
        outside = λ a past. running.on_arcs a past ∙ sym (none_past a past);
      }

  -- so the deliveries have come one further
  pub gone_more : (turns : ℕ) (start : Machine S M) (totals more : Totals) → HasGone k net turns start c before totals → (totals.taken ≡ turns → ⊥) → more.sent ≡ totals.sent + sent → more.taken ≡ totals.taken + 1
      → HasGone k net turns start d after more
  gone_more turns start totals more gone left s t =
      let most = gone.few in
      let many = sent_taken k net lawful is_net (view_on c before) (view_on d after) x.made x.out seated taken in
      let once = one_taken k net lawful is_net (view_on c before) (view_on d after) x.made x.out seated taken in
      let count = x.count in
      gone_on k lawful net is_net turns start c d before after totals more 1 history gone (omega (arith, most, left)) woven ran.log_is
      (omega (arith, s, many, count)) (omega (arith, t, once)) (omega (arith, once))
