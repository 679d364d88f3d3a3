-- Tables of rows with next hops for a destination: when each row is its node's choice, and where next hops lead.
use Rattle.std.specs.Prelude.{◌≡◌, ℕ, ◌<◌, List, [], ◌∷◌, true, length, Option, Some, None, option_and_then}
use Rattle.std.specs.declared.cmp.Ordering.TheVariants.{Equal}
use Rattle.alg_model.specs.Expressions.{PureCarrier, PureValue}
use Rattle.alg_model.specs.Carriers.{In, OrderOrNone, distinct}
use Rattle.net_graph.specs.Nets.{PureNet}
use Rattle.net_graph.specs.Tables.{carrier}
use Rattle.net_graph.specs.Walks.{Walk, Weight}
use Rattle.node_core.specs.Kinds.{speaker}
use Rattle.node_core.specs.Machine.{Machine}
use Rattle.distance_node.specs.Node.{Hop, DvState, PureVector, value_of, choice}

-- the row of each node for a destination
abbrev pub HopTable : Type 0
HopTable = ℕ → Option Hop

-- those of the nodes of a machine
abbrev pub table_of : Machine DvState PureVector → ℕ → HopTable
table_of c dest i = option_and_then (λ (s : DvState). s.rows dest) (c.node i)

-- what is known on an arc where each speaker's row is known there
abbrev pub values_on : PureNet → HopTable → ℕ → Option PureValue
values_on net table a = option_and_then (λ j. value_of (table j)) (speaker net a)

-- each node's row is its choice from its neighbours' values, and all values are the algebra's
pub record IsChosen (net : PureNet) (dest : ℕ) (table : HopTable) : Type 0 where
  pub choices : (i : ℕ) → i < length net.nodes → table i ≡ choice net dest i (values_on net table)
  pub values_in : (i : ℕ) (h : Hop) → table i ≡ Some h → In (carrier net) h.value

-- The path of these nodes begins at the node, goes from each to the next hop of its row, and ends where there is none.
abbrev pub Follows : HopTable → ℕ → List ℕ → Type 0
Follows table i [] = ⊥
Follows table i (k ∷ []) = (k ≡ i) × ((h : Hop) × (table i ≡ Some h) × (h.next ≡ None))
Follows table i (k ∷ j ∷ path) = (k ≡ i) × ((h : Hop) × (table i ≡ Some h) × (h.next ≡ Some j)) × Follows table j (j ∷ path)

-- next hops lead from the node along a walk that weighs its row's value, and come to no node twice
pub record Leads (net : PureNet) (dest : ℕ) (table : HopTable) (i : ℕ) (h : Hop) : Type 0 where
  pub path : List ℕ
  pub follows : Follows table i path
  pub apart : distinct path ≡ true
  pub walk : Walk net dest path
  pub weighs : Weight net dest path ≡ Some h.value

-- both values are none, or both are values and neither is preferred
abbrev pub AreAsGood : PureCarrier → Option PureValue → Option PureValue → Type 0
AreAsGood c u v = OrderOrNone c u v ≡ Equal
