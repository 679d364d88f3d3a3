-- What holds between two nodes that are fixed.
use Rattle.std.specs.Prelude.{◌≡◌, ℕ, ◌+◌, ◌*◌, ◌<◌, ◌≤◌, List, [], ◌∷◌, true, false, Option, Some, None, is_some, option_and_then, length}
use Rattle.alg_model.specs.Numbers.{max_label_number, max_value_number}
use Rattle.alg_model.specs.Expressions.{PureCarrier}
use Rattle.alg_model.specs.Carriers.{In}
use Rattle.alg_model.specs.Bounds.{AtMost}
use Rattle.net_graph.specs.Nets.{PureNet}
use Rattle.net_graph.specs.Routes.{PureRoute, Better}
use Rattle.net_graph.specs.Tables.{PureRow, carrier, route_at, is_among, IsOfferFrom}
use Rattle.best_first.specs.Found.{found_at, none_count, rows_from, better_of, arc_offer}
use Rattle.best_first.specs.Keys.{BeginsWith}

-- the nodes that were fixed, the latest first: each one's row is an offer made by its own origin or by
-- nodes before it, and no such offer to a node that isn't before it is better
abbrev pub WereFixed : PureNet → ℕ → List PureRow → List ℕ → Type 0
WereFixed net dest table [] = Unit {0}
WereFixed net dest table (i ∷ before) = (i < length net.nodes) × (is_among before i ≡ false)
    × ((r : PureRoute) × (route_at table i ≡ Some r) × IsOfferFrom net dest (route_at table) before i r
    × ((k : ℕ) (s : PureRoute) → k < length net.nodes → is_among before k ≡ false → IsOfferFrom net dest (route_at table) before k s → ¬ Better (carrier net) s r))
    × WereFixed net dest table before

-- one of these routes that none of them is better than, or none where there is none
abbrev pub IsBestIn : PureCarrier → (PureRoute → Type 0) → Option PureRoute → Type 0
IsBestIn c Offered (Some r) = Offered r × ((s : PureRoute) → Offered s → ¬ Better c s r)
IsBestIn c Offered None = (r : PureRoute) → ¬ Offered r

-- the best that the node's own origin and the nodes before offer it
abbrev pub IsBestOffer : PureNet → ℕ → List PureRow → List ℕ → ℕ → Option PureRoute → Type 0
IsBestOffer net dest table before k o = IsBestIn (carrier net) (IsOfferFrom net dest (route_at table) before k) o

-- a route over these nodes alone, no longer than they are many, and with small numbers
pub record IsKept (net : PureNet) (before : List ℕ) (r : PureRoute) : Type 0 where
  pub value_in : In (carrier net) r.value
  pub bound : AtMost (max_label_number * length r.path) r.value
  pub short : length r.path ≤ length before
  pub inside : (m : ℕ) → is_among r.path m ≡ true → is_among before m ≡ true

-- the rows are those of the nodes that were fixed, and what is open is the best offer to each other node
pub record IsState (net : PureNet) (dest : ℕ) (rows open_routes : List (Option PureRoute)) : Type 0 where
  pub before : List ℕ
  pub rows_count : length rows ≡ length net.nodes
  pub open_count : length open_routes ≡ length net.nodes
  pub marks : (k : ℕ) → k < length net.nodes → is_some (found_at rows k) ≡ is_among before k
  pub shut : (k : ℕ) → is_among before k ≡ true → found_at open_routes k ≡ None
  pub fixed : WereFixed net dest (rows_from dest 0 rows) before
  pub chosen : (k : ℕ) → k < length net.nodes → is_among before k ≡ false → IsBestOffer net dest (rows_from dest 0 rows) before k (found_at open_routes k)
  pub kept : (k : ℕ) (r : PureRoute) → found_at rows k ≡ Some r → IsKept net before r
  pub room : length before + none_count rows ≡ length net.nodes

-- what is open at a node once an offer was made to it: nothing new where the node has a row
abbrev pub relaxed : PureCarrier → Option PureRoute → Option PureRoute → Option PureRoute → Option PureRoute
relaxed c (Some row) found offered = found
relaxed c None found offered = better_of c found offered

-- what the arc to node j, if there is one, makes of that node's route, if it has one
abbrev pub spoken : PureNet → ℕ → ℕ → Option PureRoute → Option PureRoute
spoken net k j o = option_and_then (arc_offer net k j) o

-- the node's route is one of the carrier, begins with the node and is no longer than the nodes are many, and
-- labels may be applied to its value
pub record CanSpeak (net : PureNet) (node : ℕ) (r : PureRoute) : Type 0 where
  pub value_in : In (carrier net) r.value
  pub begins : BeginsWith node r.path
  pub short : length r.path ≤ length net.nodes
  pub small : AtMost max_value_number r.value
