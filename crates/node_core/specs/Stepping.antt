-- What a node makes of the message in front of an arc, before what it sends is on its way.
use Rattle.std.specs.Prelude.{◌≡◌, ℕ, ◌≤◌, true, List, ◌∷◌, Some}
use Rattle.node_core.specs.Kinds.{Kind, listener}
use Rattle.node_core.specs.Machine.{Machine, changed_at, clock_after, step_of}

module _ {S M : Type 0} (k : Kind S M) where
  -- node i can take the message in front of arc a, at a clock that is at most the bound
  pub record CanTake (c : Machine S M) (a i bound : ℕ) : Type 0 where
    pub node : S
    pub message : M
    pub rest : List M
    pub there : c.node i ≡ Some node
    pub front : c.link a ≡ message ∷ rest
    pub begun : k.is_begun node ≡ true
    pub last : k.last node ≡ c.clock i
    pub listens : listener (k.net node) a ≡ Some (k.number node)
    pub early : clock_after k c i message ≤ bound

  -- node i took the message in front of arc a; machine c is then d, but for what the node puts out
  pub record HasStepped (c : Machine S M) (a i : ℕ) (out : List (ℕ × M)) (d : Machine S M) : Type 0 where
    pub node : S
    pub message : M
    pub rest : List M
    pub there : c.node i ≡ Some node
    pub front : c.link a ≡ message ∷ rest
    pub out_is : out ≡ (step_of k c a i node message).1
    pub node_is : (j : ℕ) → d.node j ≡ changed_at c.node i (Some (step_of k c a i node message).0) j
    pub clock_is : (j : ℕ) → d.clock j ≡ changed_at c.clock i (clock_after k c i message) j
    pub link_is : (b : ℕ) → d.link b ≡ changed_at c.link a rest b
