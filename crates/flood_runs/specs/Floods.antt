-- What a flood comes to.
use Rattle.std.specs.Prelude.{ℕ, Bool, List, length, map}
use Rattle.std.specs.List.{range_with_len}
use Rattle.meta_base.specs.declared.ids.Delivery.{Delivery}
use Rattle.net_graph.specs.Nets.{PureNet}
use Rattle.net_graph.specs.Tables.{PureRow}
use Rattle.node_runs.specs.Runs.{IsPhaseOf}
use Rattle.flood_node.specs.Node.{FloodState, flooding, new_node}
use Rattle.flood_node.specs.Reported.{AreFloodRows}

-- the new nodes of a network
abbrev pub new_nodes : PureNet → List FloodState
new_nodes net = map (new_node net) (range_with_len 0 (length net.nodes))

-- The journal leads from the new nodes of the network, with no more deliveries than turns, to nodes that compute these
-- rows. It is quiet exactly where nothing was on its way then.
pub record IsFloodRun (net : PureNet) (turns : ℕ) (rows : List PureRow) (journal : List Delivery) (quiet : Bool) : Type 0 where
  pub states : List FloodState
  pub phase : IsPhaseOf flooding net (new_nodes net) turns journal quiet states
  pub rows_are : AreFloodRows net states rows
