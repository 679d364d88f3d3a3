-- What a phase of a run comes to.
use Rattle.std.specs.Prelude.{◌≡◌, ◌==◌, ℕ, ◌≤◌, List, Bool, true, false, Some, length, slice_get}
use Rattle.meta_base.specs.declared.ids.Delivery.{Delivery}
use Rattle.net_graph.specs.Nets.{PureNet}
use Rattle.node_core.specs.Kinds.{Kind}
use Rattle.node_core.specs.Machine.{Machine, Drained, Ordered, Replay, SentIn}
use Rattle.quiet_ledger.specs.declared.totals.Totals.{Totals}

module _ {S M : Type 0} (k : Kind S M) where
  -- From the start of the nodes the journal, which is in order, leads to the machine, with no more deliveries than
  -- turns. The phase is quiet exactly where nothing is on its way; else it used all turns.
  pub record IsPhase (net : PureNet) (nodes : List S) (turns : ℕ) (journal : List Delivery) (end : Machine S M) (quiet : Bool) : Type 0 where
    pub ordered : Ordered net journal
    pub replayed : Replay k net nodes journal ≡ Some end
    pub few : length journal ≤ turns
    pub drained : quiet ≡ true → Drained end
    pub spent : quiet ≡ false → (¬ Drained end) × (length journal ≡ turns)

  -- A phase of these nodes ended with the journal, the nodes and the totals: the nodes are those of the machine that
  -- the journal leads to, and the totals count what was sent and taken on the way. It is quiet exactly where the two
  -- agree.
  pub record IsPhaseEnd (net : PureNet) (nodes : List S) (turns : ℕ) (journal : List Delivery) (ended : List S) (totals : Totals) (quiet : Bool) : Type 0 where
    pub end : Machine S M
    pub phase : IsPhase net nodes turns journal end quiet
    pub nodes_are : (i : ℕ) → end.node i ≡ slice_get ended i
    pub sent : totals.sent ≡ SentIn k net nodes journal
    pub taken : totals.taken ≡ length journal
    pub agrees : quiet ≡ (totals.sent == totals.taken)
