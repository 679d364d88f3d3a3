-- What the checks of a table look at, walk by walk, node by node and arc by arc.
use Rattle.std.specs.Prelude.{◌≡◌, ◌*◌, ℕ, ◌==◌, Bool, List, [], ◌∷◌, Option, Some, None, false, option_map, option_and_then, length, slice_get, if◌then◌else◌, IfSome, IsSomeAnd}
use Rattle.std.specs.Borrow.{Bor}
use Rattle.alg_model.specs.Numbers.{max_label_number}
use Rattle.alg_model.specs.declared.tree.Value.{Value}
use Rattle.alg_model.specs.Bounds.{AtMost}
use Rattle.alg_model.specs.Carriers.{In, IsPreferred}
use Rattle.alg_model.specs.Expressions.{PureCarrier, PureValue}
use Rattle.alg_model.specs.Views.{pure_value}
use Rattle.net_graph.specs.Nets.{PureNet, origin_value}
use Rattle.net_graph.specs.Routes.{PureRoute, Better}
use Rattle.net_graph.specs.Tables.{PureRow, Reported, carrier, is_among, route_at, value_at, IsRouteOf, Offers}
use Rattle.net_graph.specs.Walks.{Walk, Weight, along}

-- what the arcs along the nodes make of the last node's value
abbrev pub carried : PureNet → List ℕ → Option PureValue → Option PureValue
carried net [] v = v
carried net (i ∷ []) v = v
carried net (i ∷ j ∷ p) v = along net i j (carried net (j ∷ p) v)

-- the row of a node in a table of the destination
pub record IsRowAt (net : PureNet) (d i : ℕ) (row : PureRow) : Type 0 where
  pub node : row.node ≡ i
  pub dest : row.dest ≡ d
  pub route : IfSome row.route (IsRouteOf net)

-- what stands in the list for the node
abbrev pub own_at : {X : Type 0} → List (Option X) → ℕ → Option X
own_at {X} values k = option_and_then (λ (o : Option X). o) (slice_get values k)

-- the value of each node's origin of the destination, if it has one
pub record AreOwnValues (net : PureNet) (dest : ℕ) (values : List (Option (Bor Value))) : Type 0 where
  pub count : length values ≡ length net.nodes
  pub each : (k : ℕ) → option_map (λ (v : Bor Value). pure_value v.now) (own_at values k) ≡ origin_value net dest k

-- a value of the network that so many labels may have made, one after the other
pub record IsSmall (net : PureNet) (steps : ℕ) (v : PureValue) : Type 0 where
  pub value_in : In (carrier net) v
  pub bound : AtMost (steps * max_label_number) v

-- the path begins with the node
abbrev pub begins_with : List ℕ → ℕ → Bool
begins_with [] i = false
begins_with (j ∷ p) i = j == i

-- the route's path is a walk from the node that weighs the route's value
pub record IsWalkOf (net : PureNet) (dest i : ℕ) (r : PureRoute) : Type 0 where
  pub walk : Walk net dest r.path
  pub weight : Weight net dest r.path ≡ Some r.value
  pub begins : (p : List ℕ) × (r.path ≡ i ∷ p)

-- the arc from i to j gives a value that is preferred to that of i
abbrev pub ImprovedBy : PureNet → List PureRow → ℕ → ℕ → Type 0
ImprovedBy net table i j = IsPreferred (carrier net) (along net i j (value_at table j)) (value_at table i)

-- an arc of the node does
abbrev pub IsImproved : PureNet → List PureRow → ℕ → Type 0
IsImproved net table i = (j : ℕ) × ImprovedBy net table i j

-- what makes a table relaxed, at one node
pub record IsRelaxedAt (net : PureNet) (dest : ℕ) (table : List PureRow) (i : ℕ) : Type 0 where
  pub walk : IfSome (route_at table i) (IsWalkOf net dest i)
  pub origin : ¬ IsPreferred (carrier net) (origin_value net dest i) (value_at table i)
  pub arcs : ¬ IsImproved net table i

-- what the arc from i to j offers of a route of j: nothing where the path passes i
abbrev pub passed_on : PureNet → ℕ → ℕ → PureRoute → Option PureRoute
passed_on net i j next = if is_among next.path i then None else option_map (λ (v : PureValue). record { value = v; path = i ∷ next.path }) (along net i j (Some next.value))

-- what the arc from i to j offers of what is reported of j
abbrev pub offer_by : PureNet → Reported → ℕ → ℕ → Option PureRoute
offer_by net reported i j = option_and_then (passed_on net i j) (reported j)

-- what the node's own origin offers
abbrev pub own_offer : PureNet → ℕ → ℕ → Option PureRoute
own_offer net dest i = option_map (λ (v : PureValue). record { value = v; path = i ∷ [] }) (origin_value net dest i)

-- there is an offer, and it is better than the row's route, if that has one
abbrev pub Outdoes : PureCarrier → Option PureRoute → Option PureRoute → Type 0
Outdoes c None row = ⊥
Outdoes c (Some s) None = Unit {0}
Outdoes c (Some s) (Some r) = Better c s r

-- the row has a route, and the offer is that
abbrev pub Makes : Option PureRoute → Option PureRoute → Type 0
Makes offer row = IsSomeAnd row (λ (r : PureRoute). offer ≡ Some r)

-- what the arc from i to j offers outdoes the row of i; and it is its route
abbrev pub OutdoneBy : PureNet → Reported → ℕ → ℕ → Type 0
OutdoneBy net reported i j = Outdoes (carrier net) (offer_by net reported i j) (reported i)

abbrev pub MadeBy : PureNet → Reported → ℕ → ℕ → Type 0
MadeBy net reported i j = Makes (offer_by net reported i j) (reported i)

-- the row's route, if it has one, is an offer
abbrev pub IsMade : PureNet → ℕ → Reported → ℕ → Type 0
IsMade net dest reported i = IfSome (reported i) (Offers net dest reported i)

-- an offer is better than the row's route, or is there where the row has none
abbrev pub IsOutdone : PureNet → ℕ → Reported → ℕ → Type 0
IsOutdone net dest reported i = (s : PureRoute) × Offers net dest reported i s × Outdoes (carrier net) (Some s) (reported i)
