-- All equally good next hops of a row.
use Rattle.std.specs.Prelude.{◌≡◌, ℕ, ◌+◌, List, [], ◌∷◌, Bool, true, false, Option, Some, None, IsSome, map, filter}
use Rattle.std.specs.List.{Contains}
use Rattle.std.specs.Ordering.{is_eq}
use Rattle.alg_model.specs.Carriers.{Order}
use Rattle.alg_model.specs.Expressions.{PureCarrier, PureValue}
use Rattle.net_graph.specs.Nets.{PureArc, PureNet, arcs_from, origin_value}
use Rattle.net_graph.specs.Tables.{PureRow, carrier, value_at}
use Rattle.net_graph.specs.Walks.{along}

-- a row's node, destination and value; whether the node's own origin is as good; and the heads of the arcs that are
pub record PureHops : Type 0 where
  pub node : ℕ
  pub dest : ℕ
  pub value : Option PureValue
  pub here : Bool
  pub heads : List ℕ

-- both are values, and neither is preferred to the other
abbrev pub are_equivalent : PureCarrier → Option PureValue → Option PureValue → Bool
are_equivalent c (Some u) (Some v) = is_eq (Order c u v)
are_equivalent c _ _ = false

-- what the arc makes of its head's row is as good as its tail's row
abbrev pub is_hop : PureNet → List PureRow → PureArc → Bool
is_hop net table a = are_equivalent (carrier net) (along net a.tail a.head (value_at table a.head)) (value_at table a.tail)

-- the heads of the arcs of node i that are, in file order
abbrev pub heads_at : PureNet → List PureRow → ℕ → List ℕ
heads_at net table i = map (λ (a : PureArc). a.head) (filter (is_hop net table) (arcs_from net i))

-- the row of node i in the table of the destination
abbrev pub hops_at : PureNet → ℕ → List PureRow → ℕ → PureHops
hops_at net dest table i = record {
  node = i;
  dest = dest;
  value = value_at table i;
  here = are_equivalent (carrier net) (origin_value net dest i) (value_at table i);
  heads = heads_at net table i;
}

-- those of the nodes from i on
abbrev pub hops_from : PureNet → ℕ → List PureRow → ℕ → List PureRow → List PureHops
hops_from net dest table i [] = []
hops_from net dest table i (row ∷ rows) = hops_at net dest table i ∷ hops_from net dest table (i + 1) rows

-- one for each row of the table
abbrev pub hops_of : PureNet → ℕ → List PureRow → List PureHops
hops_of net dest table = hops_from net dest table 0 table

-- the choice goes at a node to one of the listed next hops, or to none where the node itself is listed
abbrev pub IsListed : PureHops → Option ℕ → Type 0
IsListed h None = h.here ≡ true
IsListed h (Some j) = Contains h.heads j

-- so it does at each node that has a route
abbrev pub IsHopChoice : PureNet → ℕ → List PureRow → (ℕ → Option ℕ) → Type 0
IsHopChoice net dest table choice = (i : ℕ) → IsSome (value_at table i) → IsListed (hops_at net dest table i) (choice i)

-- whoever follows the choice goes this way, to its end
abbrev pub Follows : (ℕ → Option ℕ) → List ℕ → Type 0
Follows choice [] = ⊥
Follows choice (i ∷ []) = choice i ≡ None
Follows choice (i ∷ j ∷ p) = (choice i ≡ Some j) × Follows choice (j ∷ p)
