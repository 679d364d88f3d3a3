-- Runs of new nodes that are not at their end, and bounds on the deliveries of runs.
use Rattle.std.specs.Prelude.{◌≡◌, ◌≤◌, ℕ, List, Some, length, map}
use Rattle.std.specs.List.{range_with_len}
use Rattle.meta_base.specs.declared.ids.Delivery.{Delivery}
use Rattle.alg_model.specs.Expressions.{PureAlg}
use Rattle.net_graph.specs.Nets.{PureNet, IsNet}
use Rattle.node_core.specs.Machine.{Machine, Drained, Ordered, Replay}
use Rattle.path_vector.specs.Node.{PvState, PureUpdate, new_node, path_vector}

-- From the new nodes of the network so many deliveries were made, in order, and something is still on its way.
pub record HasUnfinishedRun (net : PureNet) (count : ℕ) : Type 0 where
  pub journal : List Delivery
  pub end : Machine PvState PureUpdate
  pub count_is : length journal ≡ count
  pub ordered : Ordered net journal
  pub replayed : Replay path_vector net (map (new_node net) (range_with_len 0 (length net.nodes))) journal ≡ Some end
  pub waits : ¬ Drained end

-- From the new nodes of the network there are no more deliveries than some number, in whatever order.
pub record RunsAreBounded (net : PureNet) : Type 0 where
  pub most : ℕ
  pub within : (journal : List Delivery) (end : Machine PvState PureUpdate)
      → Replay path_vector net (map (new_node net) (range_with_len 0 (length net.nodes))) journal ≡ Some end → length journal ≤ most

-- the same on every network over the algebra
abbrev pub AllRunsAreBounded : PureAlg → Type 0
AllRunsAreBounded alg = (net : PureNet) → net.alg ≡ alg → IsNet net → RunsAreBounded net
