-- The network that a node heard of, and the rows that it computes on it.
use Rattle.std.specs.Prelude.{◌≡◌, ℕ, ◌+◌, ◌<◌, Bool, true, List, [], ◌∷◌, Some, length, filter, slice_get}
use Rattle.std.specs.List.{AllByRecursion}
use Rattle.net_graph.specs.Changes.{numbered_from}
use Rattle.net_graph.specs.Nets.{PureArc, PureOrigin, PureNet}
use Rattle.net_graph.specs.Tables.{PureRow, BestFirst, AreRowsOfTables}
use Rattle.flood_node.specs.Cards.{PureCard, card_of}
use Rattle.flood_node.specs.Node.{FloodState, holds}

-- the network's names, with the arcs whose tails pass the test and the origins at such nodes, in the network's order
abbrev pub Reported : PureNet → (ℕ → Bool) → PureNet
Reported net known = record net {
  arcs = numbered_from 0 (filter (λ (a : PureArc). known a.tail) net.arcs);
  origins = filter (λ (o : PureOrigin). known o.node) net.origins;
}

-- the card is the true one of a node of the network
pub record IsTrueCard (net : PureNet) (card : PureCard) : Type 0 where
  pub node_in : card.node < length net.nodes
  pub card_is : card ≡ card_of net card.node

abbrev pub AreTrueCards : PureNet → List PureCard → Type 0
AreTrueCards net = AllByRecursion (IsTrueCard net)

-- one node for each of the network from i on, in order, each of which is begun
abbrev pub AreBegun : PureNet → ℕ → List FloodState → Type 0
AreBegun net i [] = length net.nodes ≡ i
AreBegun net i (s ∷ nodes) = (s.net ≡ net) × (s.number ≡ i) × (s.is_begun ≡ true) × AreBegun net (i + 1) nodes

-- the node's row in the table that is made best first on what it heard
pub record IsReportedRow (net : PureNet) (dest : ℕ) (s : FloodState) (row : PureRow) : Type 0 where
  pub table : List PureRow
  pub best_first : BestFirst (Reported net (holds s)) dest table
  pub is_row : slice_get table s.number ≡ Some row

-- one for each node, in order
abbrev pub AreReportedRows : PureNet → List FloodState → ℕ → List PureRow → Type 0
AreReportedRows net [] dest [] = Unit {0}
AreReportedRows net [] dest (row ∷ rows) = ⊥
AreReportedRows net (s ∷ nodes) dest [] = ⊥
AreReportedRows net (s ∷ nodes) dest (row ∷ rows) = IsReportedRow net dest s row × AreReportedRows net nodes dest rows

-- the same for all destinations, by destination, then node
abbrev pub AreFloodRows : PureNet → List FloodState → List PureRow → Type 0
AreFloodRows net nodes = AreRowsOfTables net (AreReportedRows net nodes)
