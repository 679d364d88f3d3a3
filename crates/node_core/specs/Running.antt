-- What holds of a machine that runs on a network, and of the deliveries that made it.
use Rattle.std.specs.Prelude.{◌≡◌, ℕ, ◌<◌, ◌≤◌, true, List, [], length, Some, None}
use Rattle.std.specs.List.{AllByRecursion}
use Rattle.meta_base.specs.declared.ids.Delivery.{Delivery}
use Rattle.net_graph.specs.Nets.{PureNet}
use Rattle.node_core.specs.Kinds.{Kind}
use Rattle.node_core.specs.Machine.{Machine, front_clock, replay_from, ComesBefore, Ordered}

-- a delivery on an arc, at a clock
abbrev pub entry_at : ℕ → ℕ → Delivery
entry_at t a = record { clock = t; arc = record { 0 = a } }

module _ {S M : Type 0} (k : Kind S M) where
  -- the node is begun, has that number in the network, and its last clock is the machine's
  pub record IsNodeAt (net : PureNet) (c : Machine S M) (i : ℕ) (s : S) : Type 0 where
    pub net_is : k.net s ≡ net
    pub number_is : k.number s ≡ i
    pub begun : k.is_begun s ≡ true
    pub last_is : k.last s ≡ c.clock i

  -- the machine has the nodes of the network and no others, and nothing waits but on the network's arcs
  pub record IsRunning (net : PureNet) (c : Machine S M) : Type 0 where
    pub there : (i : ℕ) → i < length net.nodes → (s : S) × (c.node i ≡ Some s)
    pub past : (i : ℕ) → length net.nodes ≤ i → c.node i ≡ None
    pub each : (i : ℕ) (s : S) → c.node i ≡ Some s → IsNodeAt net c i s
    pub on_arcs : (a : ℕ) → length net.arcs ≤ a → c.link a ≡ []

  -- no clock and no stamp of a message that waits is above the number
  pub record AreUpTo (c : Machine S M) (n : ℕ) : Type 0 where
    pub clocks : (i : ℕ) → c.clock i ≤ n
    pub stamps : (a : ℕ) → AllByRecursion (λ m. k.stamp m ≤ n) (c.link a)

  -- each delivery that the machine could make comes after this one
  abbrev pub IsAfter : PureNet → Machine S M → Delivery → Type 0
  IsAfter net c e = (a t : ℕ) → front_clock k net c a ≡ Some t → ComesBefore net e (entry_at t a)

  -- the machine could make this delivery, and none that comes before it
  pub record IsLeast (net : PureNet) (c : Machine S M) (e : Delivery) : Type 0 where
    pub front : front_clock k net c e.arc.0 ≡ Some e.clock
    pub least : (a t : ℕ) → front_clock k net c a ≡ Some t → ComesBefore net (entry_at t a) e → ⊥

  -- the journal goes from machine c to machine d, is in order, and d can make no delivery that would have to
  -- stand earlier in it
  pub record LeadsTo (net : PureNet) (c : Machine S M) (journal : List Delivery) (d : Machine S M) : Type 0 where
    pub replays : replay_from k net c journal ≡ Some d
    pub ordered : Ordered net journal
    pub after : AllByRecursion (IsAfter net d) journal
