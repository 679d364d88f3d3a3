-- What a run of distance-vector nodes comes to.
use Rattle.std.specs.Prelude.{◌≡◌, ℕ, ◌<◌, ◌==◌, ◌&&◌, Bool, List, [], ◌∷◌, length, Option, Some, None, find, option_map, option_and_then}
use Rattle.meta_base.specs.declared.ids.Delivery.{Delivery}
use Rattle.alg_model.specs.Carriers.{IsPreferred}
use Rattle.alg_model.specs.Expressions.{PureCarrier}
use Rattle.net_graph.specs.Nets.{PureNet}
use Rattle.net_graph.specs.Routes.{PureRoute}
use Rattle.net_graph.specs.Tables.{PureRow, carrier}
use Rattle.net_graph.specs.Walks.{Walk, Weight}
use Rattle.node_runs.specs.Runs.{IsPhaseOf}
use Rattle.distance_node.specs.Node.{Hop, DvState, distance, new_nodes, value_of}
use Rattle.distance_node.specs.Rows.{PureHopRow, HopRows}
use Rattle.distance_node.specs.Tables.{AreAsGood, HopTable, Leads}

-- The journal leads from the new nodes of the network, with no more deliveries than turns, to nodes that have these
-- rows. It is quiet exactly where nothing was on its way then.
pub record IsDistanceRun (net : PureNet) (turns : ℕ) (hops : List PureHopRow) (journal : List Delivery) (quiet : Bool) : Type 0 where
  pub states : List DvState
  pub phase : IsPhaseOf distance net (new_nodes net) turns journal quiet states
  pub hops_are : hops ≡ HopRows net states

-- what the row gives: a value and a next hop, or none
abbrev pub hop_of : PureHopRow → Option Hop
hop_of row = option_map (λ v. record { value = v; next = row.next }) row.value

-- the row is the node's for the destination
abbrev pub is_for : ℕ → ℕ → PureHopRow → Bool
is_for dest i row = row.dest == dest && row.node == i

-- the row of each node for a destination
abbrev pub table_in : List PureHopRow → ℕ → HopTable
table_in hops dest i = option_and_then hop_of (find (is_for dest i) hops)

-- For each destination, next hops lead from each row with a value along a walk that weighs it, and come to no node twice;
-- no walk weighs better than the row of its first node, and where that one has no value each walk weighs none.
pub record AreBestHops (net : PureNet) (hops : List PureHopRow) : Type 0 where
  pub leads : (dest i : ℕ) (h : Hop) → dest < length net.dests → table_in hops dest i ≡ Some h → Leads net dest (table_in hops dest) i h
  pub unbeaten : (dest i : ℕ) (p : List ℕ) → dest < length net.dests → Walk net dest (i ∷ p) → ¬ IsPreferred (carrier net) (Weight net dest (i ∷ p)) (value_of (table_in hops dest i))
  pub none : (dest i : ℕ) (p : List ℕ) → dest < length net.dests → table_in hops dest i ≡ None → Walk net dest (i ∷ p) → Weight net dest (i ∷ p) ≡ None

-- row for row, the node and the destination are one, and both values are none, or neither is preferred
abbrev pub AreAsGoodRows : PureCarrier → List PureHopRow → List PureRow → Type 0
AreAsGoodRows c [] [] = Unit {0}
AreAsGoodRows c [] (row ∷ rows) = ⊥
AreAsGoodRows c (hop ∷ hops) [] = ⊥
AreAsGoodRows c (hop ∷ hops) (row ∷ rows) =
    (hop.node ≡ row.node) × (hop.dest ≡ row.dest) × AreAsGood c hop.value (option_map (λ (r : PureRoute). r.value) row.route) × AreAsGoodRows c hops rows
