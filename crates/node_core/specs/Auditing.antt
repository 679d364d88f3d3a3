-- Where the replay of a journal breaks, and where it doesn't.
use Rattle.std.specs.Prelude.{◌≡◌, ℕ, ◌<◌, ◌≤◌, ◌⊎◌, List, Some, None, take, slice_get}
use Rattle.std.specs.List.{AllByRecursion}
use Rattle.meta_base.specs.Numbers.{max_turns}
use Rattle.meta_base.specs.declared.ids.Delivery.{Delivery}
use Rattle.net_graph.specs.Nets.{PureNet}
use Rattle.node_core.specs.Kinds.{Kind}
use Rattle.node_core.specs.Machine.{Machine, Replay, deliver_at}

module _ {S M : Type 0} (k : Kind S M) where
  -- The machine can't make the delivery: its arc isn't the network's, no message waits there, or its clock isn't the one
  -- that the listener gets. Or its clock is above the greatest.
  abbrev pub CannotFollow : PureNet → Machine S M → Delivery → Type 0
  CannotFollow net c e = (deliver_at k net c e ≡ None) ⊎ (max_turns < e.clock)

  -- from the start of the nodes the journal leads to the machine, and no clock of it is above the greatest
  pub record IsReached (net : PureNet) (nodes : List S) (journal : List Delivery) (machine : Machine S M) : Type 0 where
    pub leads : Replay k net nodes journal ≡ Some machine
    pub early : AllByRecursion (λ (e : Delivery). e.clock ≤ max_turns) journal

  -- the entries before that place can all be followed, and the one there can't
  pub record IsBrokenAt (net : PureNet) (nodes : List S) (journal : List Delivery) (place : ℕ) : Type 0 where
    pub machine : Machine S M
    pub entry : Delivery
    pub reached : IsReached net nodes (take place journal) machine
    pub there : slice_get journal place ≡ Some entry
    pub breaks : CannotFollow net machine entry
