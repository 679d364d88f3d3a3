-- At which nodes a card is still missing, and the budgets of cards that wait.
use Rattle.std.specs.Prelude.{ℕ, Bool, false, List, cond, length, map}
use Rattle.std.specs.Option.{option_map_or}
use Rattle.net_graph.specs.Nets.{PureNet}
use Rattle.node_core.specs.Machine.{Machine}
use Rattle.rest_laws.specs.Ways.{total}
use Rattle.flood_node.specs.Cards.{PureFlooded}
use Rattle.flood_node.specs.Node.{FloodState, holds}

-- the machine's node holds the card of node k
abbrev pub holds_at : Machine FloodState PureFlooded → ℕ → ℕ → Bool
holds_at c i k = option_map_or (λ (s : FloodState). holds s k) (c.node i) false

-- how many nodes of the network don't hold the card of node k
abbrev pub missing_at : PureNet → Machine FloodState PureFlooded → ℕ → ℕ
missing_at net c k = total (length net.nodes) (λ i. cond (holds_at c i k) 0 1)

-- the budget of each card that waits on an arc: how many nodes don't hold it
abbrev pub card_budgets : PureNet → Machine FloodState PureFlooded → ℕ → List ℕ
card_budgets net c a = map (λ (m : PureFlooded). missing_at net c m.card.node) (c.link a)
