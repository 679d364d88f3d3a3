-- Tables of routes for a destination: what they are, and when they are optimal, relaxed, stable or made
-- best first (Sobrinho 2002 and 2005).
use Rattle.std.specs.Prelude.{◌≡◌, ℕ, ◌+◌, ◌<◌, ◌≤◌, ◌^◌, ◌⊎◌, List, [], ◌∷◌, ◌++◌, Bool, true, false, ◌==◌, Option, Some, None, IfSome, option_map, option_and_then, length, slice_get}
use Rattle.std.specs.List.{list_any, AllByRecursion}
use Rattle.alg_model.specs.Expressions.{PureCarrier, PureValue}
use Rattle.alg_model.specs.Carriers.{carrier_of, In, IsPreferred}
use Rattle.alg_model.specs.Bounds.{AtMost}
use Rattle.alg_model.specs.Properties.{PureProperty, Has, monotone}
use Rattle.net_graph.specs.Limits.{max_row_number}
use Rattle.net_graph.specs.Nets.{PureArc, PureNet, origin_value}
use Rattle.net_graph.specs.Routes.{PureRoute, Better}
use Rattle.net_graph.specs.Walks.{Walk, Weight, along}

-- the labels on all arcs have the property
abbrev pub NetHas : PureProperty → PureNet → Type 0
NetHas p net = AllByRecursion (λ (a : PureArc). Has p net.alg.expression a.label) net.arcs

-- a node's route for a destination, or none
pub record PureRow : Type 0 where
  pub node : ℕ
  pub dest : ℕ
  pub route : Option PureRoute

abbrev pub carrier : PureNet → PureCarrier
carrier net = carrier_of net.alg.expression

-- a node's route in a table, if it has one
abbrev pub route_at : List PureRow → ℕ → Option PureRoute
route_at table node = option_and_then (λ (row : PureRow). row.route) (slice_get table node)

-- a node's value in a table, or none
abbrev pub value_at : List PureRow → ℕ → Option PureValue
value_at table node = option_map (λ (r : PureRoute). r.value) (route_at table node)

-- the value is in the carrier, its numbers are small, and so is the path
pub record IsRouteOf (net : PureNet) (r : PureRoute) : Type 0 where
  pub value_in : In (carrier net) r.value
  pub bound : AtMost max_row_number r.value
  pub path : length r.path ≤ 2 ^ 29

-- the rows are those of the nodes from i on
abbrev pub AreRowsFrom : PureNet → ℕ → ℕ → List PureRow → Type 0
AreRowsFrom net dest i [] = Unit {0}
AreRowsFrom net dest i (row ∷ rows) = (row.node ≡ i) × (row.dest ≡ dest) × IfSome row.route (IsRouteOf net) × AreRowsFrom net dest (i + 1) rows

-- one row for each node in order, each for the destination
pub record TableOf (net : PureNet) (dest : ℕ) (table : List PureRow) : Type 0 where
  pub rows : AreRowsFrom net dest 0 table
  pub count : length table ≡ length net.nodes

-- each route's path is a walk from its node that weighs the route's value
abbrev pub HasWalks : PureNet → ℕ → List PureRow → Type 0
HasWalks net dest table = (i : ℕ) (r : PureRoute) → route_at table i ≡ Some r
    → Walk net dest r.path × (Weight net dest r.path ≡ Some r.value) × ((p : List ℕ) × (r.path ≡ i ∷ p))

-- each route is a walk, and no walk weighs better than the row of its first node, which is none only
-- where each walk weighs none
pub record Optimal (net : PureNet) (dest : ℕ) (table : List PureRow) : Type 0 where
  pub table_of : TableOf net dest table
  pub walks : HasWalks net dest table
  pub unbeaten : (i : ℕ) (p : List ℕ) → Walk net dest (i ∷ p) → ¬ IsPreferred (carrier net) (Weight net dest (i ∷ p)) (value_at table i)

-- each route is a walk, and neither an origin nor an arc gives a value that is preferred to a row
pub record Relaxed (net : PureNet) (dest : ℕ) (table : List PureRow) : Type 0 where
  pub table_of : TableOf net dest table
  pub walks : HasWalks net dest table
  pub origins : (i : ℕ) → i < length net.nodes → ¬ IsPreferred (carrier net) (origin_value net dest i) (value_at table i)
  pub arcs : (i j : ℕ) → i < length net.nodes → ¬ IsPreferred (carrier net) (along net i j (value_at table j)) (value_at table i)

-- the node is one of these
abbrev pub is_among : List ℕ → ℕ → Bool
is_among nodes i = list_any (λ j. j == i) nodes

-- the own origin, with the path of the node alone
abbrev pub IsOwnOffer : PureNet → ℕ → ℕ → PureRoute → Type 0
IsOwnOffer net dest i r = (origin_value net dest i ≡ Some r.value) × (r.path ≡ i ∷ [])

-- what was reported of a node's route, if it has one: a table's rows tell it, and so does what a node heard
abbrev pub Reported : Type 0
Reported = ℕ → Option PureRoute

-- what an arc to j makes of the route that is reported of j, where that is a value and the path of j
-- doesn't pass i
pub record IsOfferBy (net : PureNet) (reported : Reported) (i j : ℕ) (r : PureRoute) : Type 0 where
  pub next : PureRoute
  pub is_reported : reported j ≡ Some next
  pub weighs : along net i j (Some next.value) ≡ Some r.value
  pub loopless : is_among next.path i ≡ false
  pub path : r.path ≡ i ∷ next.path

-- an offer to i made by its own origin or by one of these nodes
abbrev pub IsOfferFrom : PureNet → ℕ → Reported → List ℕ → ℕ → PureRoute → Type 0
IsOfferFrom net dest reported nodes i r = IsOwnOffer net dest i r ⊎ ((j : ℕ) × (is_among nodes j ≡ true) × IsOfferBy net reported i j r)

-- an offer to i for the destination
abbrev pub Offers : PureNet → ℕ → Reported → ℕ → PureRoute → Type 0
Offers net dest reported i r = IsOwnOffer net dest i r ⊎ ((j : ℕ) × IsOfferBy net reported i j r)

-- the choice is the offer that no other is better than, or none where there is no offer
abbrev pub IsChoice : PureNet → ℕ → Reported → ℕ → Option PureRoute → Type 0
IsChoice net dest reported i (Some r) = Offers net dest reported i r × ((s : PureRoute) → Offers net dest reported i s → ¬ Better (carrier net) s r)
IsChoice net dest reported i None = (r : PureRoute) → ¬ Offers net dest reported i r

-- each row is its node's choice from what the table tells
pub record Stable (net : PureNet) (dest : ℕ) (table : List PureRow) : Type 0 where
  pub table_of : TableOf net dest table
  pub choices : (i : ℕ) → i < length net.nodes → IsChoice net dest (route_at table) i (route_at table i)

-- The nodes with a route, in the order in which they are fixed after those before: each one's row is
-- an offer made by its own origin or by nodes before it, and no such offer to a node that isn't before
-- it is better. The nodes that are left have no route and no offer.
abbrev pub AreFixed : PureNet → ℕ → List PureRow → List ℕ → List ℕ → Type 0
AreFixed net dest table before [] = (i : ℕ) → i < length net.nodes → is_among before i ≡ false
    → (route_at table i ≡ None) × ((r : PureRoute) → ¬ IsOfferFrom net dest (route_at table) before i r)
AreFixed net dest table before (i ∷ order) = (i < length net.nodes) × (is_among before i ≡ false)
    × ((r : PureRoute) × (route_at table i ≡ Some r) × IsOfferFrom net dest (route_at table) before i r
    × ((k : ℕ) (s : PureRoute) → k < length net.nodes → is_among before k ≡ false → IsOfferFrom net dest (route_at table) before k s → ¬ Better (carrier net) s r))
    × AreFixed net dest table (i ∷ before) order

-- the table is made best first
pub record BestFirst (net : PureNet) (dest : ℕ) (table : List PureRow) : Type 0 where
  pub table_of : TableOf net dest table
  pub order : List ℕ
  pub fixed : AreFixed net dest table [] order

-- the rows of tables, one table after another
abbrev pub joined_rows : List (List PureRow) → List PureRow
joined_rows [] = []
joined_rows (table ∷ tables) = table ++ joined_rows tables

-- this holds of the table of each destination from that one on
abbrev pub OnTablesFrom : (ℕ → List PureRow → Type 0) → ℕ → List (List PureRow) → Type 0
OnTablesFrom Holds dest [] = Unit {0}
OnTablesFrom Holds dest (table ∷ tables) = Holds dest table × OnTablesFrom Holds (dest + 1) tables

-- the rows are those of the tables of all destinations in order, and of each of these this holds
pub record AreRowsOfTables (net : PureNet) (Holds : ℕ → List PureRow → Type 0) (rows : List PureRow) : Type 0 where
  pub tables : List (List PureRow)
  pub hold : OnTablesFrom Holds 0 tables
  pub count : length tables ≡ length net.dests
  pub joined : rows ≡ joined_rows tables

-- the rows are those of stable tables of all destinations
abbrev pub AreStableRows : PureNet → List PureRow → Type 0
AreStableRows net = AreRowsOfTables net (Stable net)

-- they are, and where all labels are monotone no other rows are
pub record AreSettledRows (net : PureNet) (rows : List PureRow) : Type 0 where
  pub stable : AreStableRows net rows
  pub only : NetHas monotone net → (others : List PureRow) → AreStableRows net others → others ≡ rows
