-- How nodes, and what waits on arcs, are dealt to blocks.
use Rattle.std.specs.Prelude.{◌≡◌, ℕ, ◌==◌, List, [], Some, None, cond, map, option_map, slice_get}
use Rattle.std.specs.declared.collections.VecDeque.{VecDeque}
use Rattle.std.specs.declared.alloc.Global.{Global}
use Rattle.meta_base.specs.declared.ids.Delivery.{Delivery}
use Rattle.net_graph.specs.Nets.{PureNet}
use Rattle.node_core.specs.Configs.{waits_on}
use Rattle.node_core.specs.Kinds.{listener}
use Rattle.node_core.specs.Machine.{changed_at}
use Rattle.weave.specs.Lanes.{elsewhere, inside}
use Rattle.weave.specs.Views.{View}
use Rattle.weave.specs.Gathered.{block_of, AreGathered, machine_across}
use Rattle.weave.specs.Arcs.{KeepsSeats}

module _ {S W : Type 0} where
  -- the block has nothing yet
  pub record IsEmptyView (v : View S W) : Type 0 where
    pub node_is : (i : ℕ) → v.node i ≡ None
    pub clock_is : (i : ℕ) → v.clock i ≡ 0
    pub log_is : (i : ℕ) → v.log i ≡ []
    pub lane_is : (a : ℕ) → v.lane a ≡ elsewhere

  -- the block has another node at the number, with its clock and log, and all else stays
  pub record IsSeatPut (old new : ℕ → View S W) (block i : ℕ) (s : S) (clock : ℕ) (log : List Delivery) : Type 0 where
    pub node_is : (b n : ℕ) → (new b).node n ≡ cond (b == block) (changed_at (old b).node i (Some s) n) ((old b).node n)
    pub clock_is : (b n : ℕ) → (new b).clock n
        ≡ cond (b == block) (changed_at (old b).clock i clock n) ((old b).clock n)
    pub log_is : (b n : ℕ) → (new b).log n ≡ cond (b == block) (changed_at (old b).log i log n) ((old b).log n)
    pub lane_is : (b a : ℕ) → (new b).lane a ≡ (old b).lane a

  module _ {N : Type 0} (state : N → S) (count : ℕ) where
    -- the nodes stand in their blocks, with clocks of 0 and empty logs, and nothing else is there
    pub record AreSeatedFresh (nodes : List N) (views : ℕ → View S W) : Type 0 where
      pub node_is : (b i : ℕ) → (views b).node i
          ≡ cond (b == block_of count i) (option_map state (slice_get nodes i)) None
      pub clock_is : (b i : ℕ) → (views b).clock i ≡ 0
      pub log_is : (b i : ℕ) → (views b).log i ≡ []
      pub lane_is : (b a : ℕ) → (views b).lane a ≡ elsewhere

  module _ {M : Type 0} (note : M → W) (net : PureNet) (count : ℕ) where
    -- what waits on the arcs stands with their listeners, and the nodes are as they were
    pub record AreLaid (links : List (VecDeque M Global)) (old new : ℕ → View S W) : Type 0 where
      pub seats : KeepsSeats old new
      pub lane_is : (a i : ℕ) → listener net a ≡ Some i
          → (new (block_of count i)).lane a ≡ inside (map note (waits_on links a))

    -- the blocks are those of these nodes, with clocks of 0 and empty logs, and of these links
    pub record IsDealt {N : Type 0} (state : N → S) (nodes : List N) (links : List (VecDeque M Global))
        (views : ℕ → View S W) : Type 0 where
      pub gathered : AreGathered net count views
      pub node_is : (i : ℕ) → (machine_across net count views).node i ≡ option_map state (slice_get nodes i)
      pub clock_is : (i : ℕ) → (machine_across net count views).clock i ≡ 0
      pub log_is : (i : ℕ) → (views (block_of count i)).log i ≡ []
      pub link_is : (a : ℕ) → (machine_across net count views).link a ≡ map note (waits_on links a)
