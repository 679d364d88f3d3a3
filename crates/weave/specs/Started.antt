-- What a phase starts with.
use Rattle.std.specs.Prelude.{◌≡◌, ℕ, ◌≤◌, ◌^◌, length, map, option_map, slice_get, vec_len}
use Rattle.net_graph.specs.Nets.{PureNet}
use Rattle.node_core.specs.Configs.{waits_on}
use Rattle.node_core.specs.Kinds.{Kind}
use Rattle.node_core.specs.Machine.{Machine}
use Rattle.node_core.specs.Running.{AreUpTo, IsRunning}
use Rattle.woven_laws.specs.Counts.{waiting_on}
use Rattle.weave.specs.declared.started.Started.{Started}

module _ {N X S M : Type 0} (state : N → S) (note : X → M) (k : Kind S M) (net : PureNet) where
  -- The machine has these nodes, with clocks of 0, and what they sent waits on these links.
  pub record IsStarted (c : Machine S M) (started : Started N X) : Type 0 where
    pub nodes_are : (i : ℕ) → c.node i ≡ option_map state (slice_get started.nodes i)
    pub links_are : (a : ℕ) → c.link a ≡ map note (waits_on started.links.items a)
    pub clock_is : (i : ℕ) → c.clock i ≡ 0
    pub link_count : vec_len started.links ≡ length net.arcs
    pub running : IsRunning k net c
    pub few : waiting_on net c ≤ 2 ^ 20
    pub early : AreUpTo k c 0
    pub waiting : started.waiting ≡ waiting_on net c
