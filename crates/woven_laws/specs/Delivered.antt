-- A delivery among nodes that are run together.
use Rattle.std.specs.Prelude.{◌≡◌, ℕ, ◌+◌, ◌==◌, max, List, [], ◌∷◌, ◌++◌, Some, cond, length}
use Rattle.meta_base.specs.declared.ids.Delivery.{Delivery}
use Rattle.net_graph.specs.Nets.{PureNet}
use Rattle.node_core.specs.Kinds.{Kind, listener, on_arc}
use Rattle.node_core.specs.Machine.{Machine, changed_at}

-- The listener of an arc took the message in front there, at the clock that it gets by that, and logged it. What its
-- step put out, so many messages, waits after what waited.
pub record HasDelivered {S M : Type 0} (k : Kind S M) (net : PureNet) (c : Machine S M) (before : ℕ → List Delivery) (sent : ℕ)
    (d : Machine S M) (after : ℕ → List Delivery) : Type 0 where
  pub made : Delivery
  pub number : ℕ
  pub node : S
  pub message : M
  pub out : List (ℕ × M)
  pub listens : listener net made.arc.0 ≡ Some number
  pub was : c.node number ≡ Some node
  pub timed : made.clock ≡ max (c.clock number) (k.stamp message) + 1
  pub out_is : out ≡ (k.step node made.arc.0 message made.clock).1
  pub count : length out ≡ sent
  pub node_is : (j : ℕ) → d.node j ≡ changed_at c.node number (Some (k.step node made.arc.0 message made.clock).0) j
  pub clock_is : (j : ℕ) → d.clock j ≡ changed_at c.clock number made.clock j
  pub log_is : (j : ℕ) → after j ≡ changed_at before number (before number ++ made ∷ []) j
  pub link_is : (b : ℕ) → c.link b ++ on_arc b out ≡ cond (made.arc.0 == b) (message ∷ []) [] ++ d.link b
