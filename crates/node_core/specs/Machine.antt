-- The machine of any kind of node: its start, its deliveries, and the replay of a journal (Sobrinho 2005 has
-- the protocol without clocks; Lamport 1978 the clocks).
use Rattle.std.specs.Prelude.{◌≡◌, ℕ, ◌+◌, ◌<◌, ◌==◌, ◌⊎◌, max, false, List, [], ◌∷◌, ◌++◌, length, Option, Some, None, cond, option_map, option_and_then, slice_get}
use Rattle.std.specs.Option.{option_map_or}
use Rattle.std.specs.List.{AllByRecursion}
use Rattle.meta_base.specs.declared.ids.Delivery.{Delivery}
use Rattle.net_graph.specs.Nets.{PureNet}
use Rattle.node_core.specs.Kinds.{Kind, listener, on_arc}

-- f, but v at i
abbrev pub changed_at : {X : Type 0} → (ℕ → X) → ℕ → X → ℕ → X
changed_at f i v j = cond (j == i) v (f j)

-- the nodes of the network, the last clock of each, and what waits on each arc, front first
pub record Machine (S M : Type 0) : Type 0 where
  pub node : ℕ → Option S
  pub clock : ℕ → ℕ
  pub link : ℕ → List M

-- nothing is on its way
abbrev pub Drained : {S M : Type 0} → Machine S M → Type 0
Drained c = (a : ℕ) → c.link a ≡ []

module _ {S M : Type 0} (k : Kind S M) where
  -- one node for each of the network, in order, none of which is begun
  abbrev pub AreUnbegun : PureNet → ℕ → List S → Type 0
  AreUnbegun net i [] = length net.nodes ≡ i
  AreUnbegun net i (s ∷ nodes) = (k.net s ≡ net) × (k.number s ≡ i) × (k.is_begun s ≡ false) × AreUnbegun net (i + 1) nodes

  -- what the nodes put out when they begin, node by node
  abbrev pub begun_messages : List S → List (ℕ × M)
  begun_messages [] = []
  begun_messages (s ∷ nodes) = (k.begin s).1 ++ begun_messages nodes

  -- every node has begun
  abbrev pub Start : List S → Machine S M
  Start nodes =
      record {
        node = λ i. option_map (λ s. (k.begin s).0) (slice_get nodes i);
        clock = λ i. 0;
        link = λ a. on_arc a (begun_messages nodes);
      }

  -- the clock that a node gets by a message
  abbrev pub clock_after : Machine S M → ℕ → M → ℕ
  clock_after c i m = max (c.clock i) (k.stamp m) + 1

  -- what node i, which is s, makes of the message, and what it puts out
  abbrev pub step_of : Machine S M → ℕ → ℕ → S → M → S × List (ℕ × M)
  step_of c a i s m = k.step s a m (clock_after c i m)

  -- the machine after node i took m, which was in front of the rest on arc a
  abbrev pub stepped : Machine S M → ℕ → ℕ → S → M → List M → Machine S M
  stepped c a i s m rest =
      record {
        node = changed_at c.node i (Some (step_of c a i s m).0);
        clock = changed_at c.clock i (clock_after c i m);
        link = λ b. changed_at c.link a rest b ++ on_arc b (step_of c a i s m).1;
      }

  abbrev pub taken_by : Machine S M → ℕ → ℕ → List M → Option (Machine S M)
  taken_by c a i [] = None
  taken_by c a i (m ∷ rest) = option_map (λ s. stepped c a i s m rest) (c.node i)

  -- the listener of the arc takes the message in front; none where there is no message
  abbrev pub Deliver : PureNet → Machine S M → ℕ → Option (Machine S M)
  Deliver net c a = option_and_then (λ i. taken_by c a i (c.link a)) (listener net a)

  -- the clock that a delivery on the arc gives its listener, if a message waits there
  abbrev pub front_clock : PureNet → Machine S M → ℕ → Option ℕ
  front_clock net c a = option_and_then (λ i. option_map (clock_after c i) (slice_get (c.link a) 0)) (listener net a)

  -- a delivery of a journal, which gives the clock that the journal has
  abbrev pub deliver_at : PureNet → Machine S M → Delivery → Option (Machine S M)
  deliver_at net c e = cond (option_map_or (λ t. t == e.clock) (front_clock net c e.arc.0) false) (Deliver net c e.arc.0) None

  -- the deliveries of a journal one after another, from a machine
  abbrev pub replay_from : PureNet → Machine S M → List Delivery → Option (Machine S M)
  replay_from net c [] = Some c
  replay_from net c (e ∷ es) = option_and_then (λ d. replay_from net d es) (deliver_at net c e)

  -- and from the start of these nodes
  abbrev pub Replay : PureNet → List S → List Delivery → Option (Machine S M)
  Replay net nodes journal = replay_from net (Start nodes) journal

  abbrev pub put_by : Machine S M → ℕ → ℕ → List M → List (ℕ × M)
  put_by c a i [] = []
  put_by c a i (m ∷ rest) = option_map_or (λ s. (step_of c a i s m).1) (c.node i) []

  -- how many messages the deliveries put out, one after another, from a machine
  abbrev pub sent_from : PureNet → Machine S M → List Delivery → ℕ
  sent_from net c [] = 0
  sent_from net c (e ∷ es) =
      option_map_or (λ i. length (put_by c e.arc.0 i (c.link e.arc.0))) (listener net e.arc.0) 0
      + option_map_or (λ d. sent_from net d es) (deliver_at net c e) 0

  -- and from the start of these nodes, with what they put out there
  abbrev pub SentIn : PureNet → List S → List Delivery → ℕ
  SentIn net nodes journal = length (begun_messages nodes) + sent_from net (Start nodes) journal

-- the first delivery comes before the second, by clock, then by listener
abbrev pub ComesBefore : PureNet → Delivery → Delivery → Type 0
ComesBefore net e d = (e.clock < d.clock)
    ⊎ ((e.clock ≡ d.clock) × ((i : ℕ) × (j : ℕ) × (listener net e.arc.0 ≡ Some i) × (listener net d.arc.0 ≡ Some j) × (i < j)))

-- the pairs of clock and listener ascend strictly
abbrev pub Ordered : PureNet → List Delivery → Type 0
Ordered net [] = Unit {0}
Ordered net (e ∷ es) = AllByRecursion (ComesBefore net e) es × Ordered net es
