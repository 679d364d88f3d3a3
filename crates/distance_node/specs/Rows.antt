-- The rows with next hops of nodes.
use Rattle.std.specs.Prelude.{ℕ, ◌<◌, List, [], ◌∷◌, ◌++◌, map, length, Option, IfSome, option_map, option_and_then}
use Rattle.std.specs.List.{range_with_len}
use Rattle.alg_model.specs.Carriers.{In}
use Rattle.alg_model.specs.Expressions.{PureValue}
use Rattle.alg_model.specs.Views.{pure_value}
use Rattle.net_graph.specs.Nets.{PureNet}
use Rattle.net_graph.specs.Tables.{carrier}
use Rattle.distance_node.specs.declared.rows.HopRow.{HopRow}
use Rattle.distance_node.specs.Node.{Hop, DvState, value_of}

-- a node's value for a destination and its next hop: no value, or a value without a next hop where it is its own
-- origin's
pub record PureHopRow : Type 0 where
  pub node : ℕ
  pub dest : ℕ
  pub value : Option PureValue
  pub next : Option ℕ

abbrev pub hop_row : ℕ → ℕ → Option Hop → PureHopRow
hop_row node dest row = record { node = node; dest = dest; value = value_of row; next = option_and_then (λ (h : Hop). h.next) row }

abbrev pub pure_hop_row : HopRow → PureHopRow
pure_hop_row row = record { node = row.node.0; dest = row.dest.0; value = option_map pure_value row.value; next = option_map (λ n. n.0) row.next }

-- the rows of nodes for a destination, and for all of these, by destination, then node
abbrev pub dest_rows : List DvState → ℕ → List PureHopRow
dest_rows nodes dest = map (λ (s : DvState). hop_row s.number dest (s.rows dest)) nodes

abbrev pub rows_for : List DvState → List ℕ → List PureHopRow
rows_for nodes [] = []
rows_for nodes (dest ∷ dests) = dest_rows nodes dest ++ rows_for nodes dests

abbrev pub HopRows : PureNet → List DvState → List PureHopRow
HopRows net nodes = rows_for nodes (range_with_len 0 (length net.dests))

-- the ids and the value of a row are the network's
pub record IsHopRowOf (net : PureNet) (row : PureHopRow) : Type 0 where
  pub node_in : row.node < length net.nodes
  pub dest_in : row.dest < length net.dests
  pub value_in : IfSome row.value (In (carrier net))
  pub next_in : IfSome row.next (λ j. j < length net.nodes)
