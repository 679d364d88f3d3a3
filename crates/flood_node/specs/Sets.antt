-- The nodes whose cards a node holds, as a set of numbers.
use Rattle.std.specs.Prelude.{◌≡◌, ℕ, ◌<◌, length, List}
use Rattle.number_sets.specs.NumberSets.{has_number}
use Rattle.net_graph.specs.Nets.{PureNet}
use Rattle.flood_node.specs.Cards.{PureCard}
use Rattle.flood_node.specs.Node.{has_card}

-- the set is that of the cards' nodes
abbrev pub AreNodesOf : List ℕ → List PureCard → Type 0
AreNodesOf words cards = (i : ℕ) → has_number words i ≡ has_card cards i

-- what holds of a node of the network that holds these cards: it is one of the network's, and the set is of their nodes
pub record IsHolder (net : PureNet) (number : ℕ) (words : List ℕ) (cards : List PureCard) : Type 0 where
  pub inside : number < length net.nodes
  pub nodes : AreNodesOf words cards
