-- The flooding node: what it holds, how it begins and steps.
use Rattle.std.specs.Prelude.{ℕ, ◌==◌, Bool, true, false, List, [], ◌∷◌, ◌++◌, map, cond}
use Rattle.std.specs.List.{list_any}
use Rattle.net_graph.specs.Nets.{PureArc, PureNet, arcs_to}
use Rattle.node_core.specs.Kinds.{Kind}
use Rattle.flood_node.specs.Cards.{PureCard, PureFlooded, card_of}

pub record FloodState : Type 0 where
  pub net : PureNet
  pub number : ℕ
  pub is_begun : Bool
  -- the cards that it holds, in the order in which they came
  pub cards : List PureCard
  pub last : ℕ

-- one of the cards is that node's
abbrev pub has_card : List PureCard → ℕ → Bool
has_card cards j = list_any (λ (c : PureCard). c.node == j) cards

abbrev pub holds : FloodState → ℕ → Bool
holds s j = has_card s.cards j

-- a message on each of these arcs
abbrev pub reported_on : List PureArc → PureFlooded → List (ℕ × PureFlooded)
reported_on arcs m = map (λ (a : PureArc). (a.id, m)) arcs

-- the node tells the card to all that listen to it
abbrev pub reported_by : FloodState → PureCard → ℕ → List (ℕ × PureFlooded)
reported_by s card clock = reported_on (arcs_to s.net s.number) (record { card = card; stamp = clock })

-- it holds its own card, and tells it
abbrev pub Begin : FloodState → FloodState × List (ℕ × PureFlooded)
Begin s = (record s { is_begun = true; cards = card_of s.net s.number ∷ []; last = 0 }, reported_by s (card_of s.net s.number) 0)

-- it keeps a card that it didn't hold, and tells it
abbrev pub Step : FloodState → ℕ → PureFlooded → ℕ → FloodState × List (ℕ × PureFlooded)
Step s a m clock =
    cond (holds s m.card.node) (record s { last = clock }, [])
    (record s { cards = s.cards ++ m.card ∷ []; last = clock }, reported_by s m.card clock)

-- the flooding kind of node
abbrev pub flooding : Kind FloodState PureFlooded
flooding =
    record {
      net = λ s. s.net;
      number = λ s. s.number;
      is_begun = λ s. s.is_begun;
      last = λ s. s.last;
      with_last = λ s t. record s { last = t };
      fits = λ s a m. true;
      stamp = λ m. m.stamp;
      begin = Begin;
      step = Step;
    }

-- a new node, which holds nothing
abbrev pub new_node : PureNet → ℕ → FloodState
new_node net i = record { net = net; number = i; is_begun = false; cards = []; last = 0 }
