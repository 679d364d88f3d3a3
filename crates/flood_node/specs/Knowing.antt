-- What flooding nodes come to know.
use Rattle.std.specs.Prelude.{◌≡◌, ℕ, ◌⊎◌, ◌==◌, true, Bool, List, Some}
use Rattle.std.specs.List.{AllByRecursion, list_any}
use Rattle.net_graph.specs.Nets.{PureNet, AreDistinct}
use Rattle.node_core.specs.Kinds.{listener, speaker}
use Rattle.node_core.specs.Machine.{Machine}
use Rattle.node_core.specs.Running.{IsRunning}
use Rattle.flood_node.specs.Cards.{PureCard, PureFlooded}
use Rattle.flood_node.specs.Node.{FloodState, flooding, holds}
use Rattle.flood_node.specs.Reach.{Reach}
use Rattle.flood_node.specs.Reported.{IsTrueCard}

-- the card is the true one of a node that this node reaches
pub record IsReachedCard (net : PureNet) (i : ℕ) (card : PureCard) : Type 0 where
  pub is_true : IsTrueCard net card
  pub is_reached : Reach net i card.node

-- a card of the node waits among these messages
abbrev pub is_waiting : List PureFlooded → ℕ → Bool
is_waiting ms k = list_any (λ (m : PureFlooded). m.card.node == k) ms

-- both cards are of one node
abbrev pub same_node : PureCard → PureCard → Bool
same_node c d = c.node == d.node

-- The nodes of a machine hold their own cards, and true cards of nodes that they reach, each once; so are the cards that wait,
-- seen from those who sent them; and the listener of an arc holds each card that its speaker holds, or it waits there.
pub record IsFlood (net : PureNet) (c : Machine FloodState PureFlooded) : Type 0 where
  pub running : IsRunning flooding net c
  pub own : (i : ℕ) (s : FloodState) → c.node i ≡ Some s → holds s i ≡ true
  pub held : (i : ℕ) (s : FloodState) → c.node i ≡ Some s → AllByRecursion (IsReachedCard net i) s.cards
  pub apart : (i : ℕ) (s : FloodState) → c.node i ≡ Some s → AreDistinct same_node s.cards
  pub waiting : (a j : ℕ) → speaker net a ≡ Some j → AllByRecursion (λ m. IsReachedCard net j m.card) (c.link a)
  pub reported : (a i j k : ℕ) (s t : FloodState) → listener net a ≡ Some i → speaker net a ≡ Some j → c.node i ≡ Some s → c.node j ≡ Some t
      → holds t k ≡ true → (holds s k ≡ true) ⊎ (is_waiting (c.link a) k ≡ true)
