-- Cards: what a node tells of itself.
use Rattle.std.specs.Prelude.{ℕ, zero, suc, List, [], ◌∷◌, ◌++◌, Option, Some, None, map, length}
use Rattle.alg_model.specs.Expressions.{PureLabel, PureValue}
use Rattle.net_graph.specs.Nets.{PureArc, PureNet, arcs_from, origin_value}

pub record PureCardArc : Type 0 where
  pub head : ℕ
  pub label : PureLabel

pub record PureCardOrigin : Type 0 where
  pub dest : ℕ
  pub value : PureValue

pub record PureCard : Type 0 where
  pub node : ℕ
  pub arcs : List PureCardArc
  pub origins : List PureCardOrigin

-- a card, and the clock of the delivery that made its sender send it
pub record PureFlooded : Type 0 where
  pub card : PureCard
  pub stamp : ℕ

-- what a card says of an arc that the node may route by
abbrev pub card_arc : PureArc → PureCardArc
card_arc a = record { head = a.head; label = a.label }

-- what it says of the node's origin of a destination, if there is one
abbrev pub card_origin : ℕ → Option PureValue → List PureCardOrigin
card_origin dest (Some v) = record { dest = dest; value = v } ∷ []
card_origin dest None = []

-- and of those of the destinations below this one, in order
abbrev pub card_origins : PureNet → ℕ → ℕ → List PureCardOrigin
card_origins net i zero = []
card_origins net i (suc dest) = card_origins net i dest ++ card_origin dest (origin_value net dest i)

-- the node's true card: its out arcs in file order, and its origins in order of destinations
abbrev pub card_of : PureNet → ℕ → PureCard
card_of net i = record { node = i; arcs = map card_arc (arcs_from net i); origins = card_origins net i (length net.dests) }
