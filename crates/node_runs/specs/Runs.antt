-- A phase of nodes of any kind, and the nodes that it ends with.
use Rattle.std.specs.Prelude.{◌≡◌, ℕ, ◌+◌, Bool, true, List, [], ◌∷◌, length, slice_get}
use Rattle.meta_base.specs.declared.ids.Delivery.{Delivery}
use Rattle.net_graph.specs.Nets.{PureNet, IsNet}
use Rattle.node_core.specs.Kinds.{Kind}
use Rattle.node_core.specs.Machine.{AreUnbegun, Machine}
use Rattle.weave.specs.Phases.{IsPhase}

module _ {S M : Type 0} (k : Kind S M) where
  -- one node for each of the network from i on, in order, each of which is begun
  abbrev pub AreBegun : PureNet → ℕ → List S → Type 0
  AreBegun net i [] = length net.nodes ≡ i
  AreBegun net i (s ∷ nodes) = (k.net s ≡ net) × (k.number s ≡ i) × (k.is_begun s ≡ true) × AreBegun net (i + 1) nodes

  -- From these unbegun nodes the journal leads on the network to nodes in these states, one for each of the network, in
  -- order; there were no more deliveries than turns. It is quiet exactly where nothing was on its way then.
  pub record IsPhaseOf (net : PureNet) (nodes : List S) (turns : ℕ) (journal : List Delivery) (quiet : Bool) (states : List S) : Type 0 where
    pub end : Machine S M
    pub phase : IsPhase k net nodes turns journal end quiet
    pub states_are : (i : ℕ) → end.node i ≡ slice_get states i
    pub count : length states ≡ length net.nodes
    pub begun : AreBegun net 0 states

  -- nodes in these states have run a phase, on a network that meets the rules
  pub record HaveRun (net : PureNet) (states : List S) : Type 0 where
    pub is_net : IsNet net
    pub nodes : List S
    pub unbegun : AreUnbegun k net 0 nodes
    pub turns : ℕ
    pub journal : List Delivery
    pub quiet : Bool
    pub phase : IsPhaseOf net nodes turns journal quiet states
