-- What a block has, as contracts see it, and what its worker makes of it.
use Rattle.std.specs.Prelude.{◌≡◌, ℕ, ◌+◌, ◌<◌, ◌≤◌, ◌==◌, max, true, List, [], ◌∷◌, ◌++◌, Option, Some, None, cond, map, length}
use Rattle.std.specs.List.{AllByRecursion}
use Rattle.meta_base.specs.declared.ids.Delivery.{Delivery}
use Rattle.net_graph.specs.Nets.{PureNet}
use Rattle.meta_base.specs.Numbers.{max_turns}
use Rattle.node_core.specs.Kinds.{Kind, listener, speaker, on_arc}
use Rattle.node_core.specs.Machine.{changed_at}
use Rattle.woven_laws.specs.Histories.{Taken, entry_of, taken_on, clock_past, IsTimed, option_after, option_out}
use Rattle.weave.specs.Lanes.{PureLane, inside, HasPassed}

-- the block's nodes with their clocks and logs, and what it has of each arc
pub record View (S M : Type 0) : Type 0 where
  pub node : ℕ → Option S
  pub clock : ℕ → ℕ
  pub log : ℕ → List Delivery
  pub lane : ℕ → PureLane M

-- A node can hear a message that came on an arc, at the clock that it gets by that: it is begun, listens there, and its
-- last clock is known.
pub record CanHear {S M : Type 0} (k : Kind S M) (s : S) (last a : ℕ) (m : M) (clock : ℕ) : Type 0 where
  pub begun : k.is_begun s ≡ true
  pub last_is : k.last s ≡ last
  pub listens : listener (k.net s) a ≡ Some (k.number s)
  pub timed : clock ≡ max last (k.stamp m) + 1
  pub early : clock ≤ max_turns

module _ {S M : Type 0} (k : Kind S M) (net : PureNet) where
  -- a node of the network that is begun, at its place, with its clock
  pub record IsSeated (i clock : ℕ) (s : S) : Type 0 where
    pub net_is : k.net s ≡ net
    pub number_is : k.number s ≡ i
    pub begun : k.is_begun s ≡ true
    pub last_is : k.last s ≡ clock

  -- each of the block's nodes is
  abbrev pub AreSeated : View S M → Type 0
  AreSeated v = (i : ℕ) (s : S) → v.node i ≡ Some s → IsSeated i (v.clock i) s

  -- The listener of the delivery's arc took the message in front there, at the delivery's clock. Its step put `out`
  -- out, of which `sent` was sent so far.
  pub record HasTaken (v : View S M) (e : Delivery) (out sent : List (ℕ × M)) (w : View S M) : Type 0 where
    pub number : ℕ
    pub node : S
    pub message : M
    pub listens : listener net e.arc.0 ≡ Some number
    pub was : v.node number ≡ Some node
    pub timed : e.clock ≡ max (v.clock number) (k.stamp message) + 1
    pub out_is : out ≡ (k.step node e.arc.0 message e.clock).1
    pub node_is : (j : ℕ) → w.node j ≡ changed_at v.node number (Some (k.step node e.arc.0 message e.clock).0) j
    pub clock_is : (j : ℕ) → w.clock j ≡ changed_at v.clock number e.clock j
    pub log_is : (j : ℕ) → w.log j ≡ changed_at v.log number (v.log number ++ e ∷ []) j
    pub lane_is : (b : ℕ) → HasPassed (v.lane b) (on_arc b sent) (cond (e.arc.0 == b) (message ∷ []) []) (w.lane b)

  -- where a message waits in front of an arc for a node of the block, its clock is above the greatest
  abbrev pub IsLate : View S M → ℕ → Type 0
  IsLate v a = (i : ℕ) (s : S) (m : M) (rest : List M) → listener net a ≡ Some i → v.node i ≡ Some s
      → v.lane a ≡ inside (m ∷ rest) → max_turns < max (v.clock i) (k.stamp m) + 1

  -- a message was taken, and all that its listener put out, so many messages, was sent
  abbrev pub TakesOne : View S M → ℕ → View S M → Type 0
  TakesOne v count w = (e : Delivery) × (out : List (ℕ × M)) × (length out ≡ count) × HasTaken v e out out w

  -- Each node took what its history says, one message after another, and sent what its steps put out.
  pub record HasRun (v : View S M) (history : ℕ → List (Taken M)) (w : View S M) : Type 0 where
    pub node_is : (i : ℕ) → w.node i ≡ option_after k (v.node i) (history i)
    pub none_takes : (i : ℕ) → v.node i ≡ None → history i ≡ []
    pub clock_is : (i : ℕ) → w.clock i ≡ clock_past (v.clock i) (history i)
    pub timed : (i : ℕ) → IsTimed k (v.clock i) (history i)
    pub heard : (i : ℕ) → AllByRecursion (λ h. listener net h.arc ≡ Some i) (history i)
    pub spoken : (i : ℕ) → AllByRecursion (λ p. speaker net p.0 ≡ Some i) (option_out k (v.node i) (history i))
    pub log_is : (i : ℕ) → w.log i ≡ v.log i ++ map entry_of (history i)
    pub lane_is : (a i j : ℕ) → listener net a ≡ Some i → speaker net a ≡ Some j
        → HasPassed (v.lane a) (on_arc a (option_out k (v.node j) (history j))) (taken_on a (history i)) (w.lane a)

-- nothing was taken and nothing sent
pub record IsSameView {S M : Type 0} (v w : View S M) : Type 0 where
  pub node_is : (i : ℕ) → w.node i ≡ v.node i
  pub clock_is : (i : ℕ) → w.clock i ≡ v.clock i
  pub log_is : (i : ℕ) → w.log i ≡ v.log i
  pub lane_is : (b : ℕ) → HasPassed (v.lane b) [] [] (w.lane b)
