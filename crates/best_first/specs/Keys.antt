-- What orders open routes without their paths.
use Rattle.std.specs.Prelude.{◌≡◌, ◌⊎◌, ℕ, ◌+◌, List, [], ◌∷◌, Bool, true, false, Option, Some, None, map, option_map, length}
use Rattle.std.specs.Ordering.{ordering_then, nat_cmp}
use Rattle.std.specs.declared.cmp.Ordering.{Ordering}
use Rattle.alg_model.specs.Expressions.{PureCarrier, PureValue}
use Rattle.alg_model.specs.Carriers.{Order}
use Rattle.net_graph.specs.Routes.{PureRoute, is_less}
use Rattle.net_graph.specs.Tables.{Reported}
use Rattle.best_first.specs.declared.route.OpenRoute.{OpenRoute}
use Rattle.best_first.specs.declared.route.OpenPlace.{OpenPlace}
use Rattle.best_first.specs.Found.{found_at}

-- an open route: its value, how many nodes its path has, its node, and the node after it
pub record RouteKey : Type 0 where
  pub value : PureValue
  pub size : ℕ
  pub node : ℕ
  pub next : ℕ

-- by size, node and next
abbrev pub compare_places : OpenPlace → OpenPlace → Ordering
compare_places p q = ordering_then (nat_cmp p.size q.size) (ordering_then (nat_cmp p.node.0 q.node.0) (nat_cmp p.next.0 q.next.0))

-- by value, size, node and next
abbrev pub compare_keys : PureCarrier → RouteKey → RouteKey → Ordering
compare_keys c k l = ordering_then (Order c k.value l.value) (ordering_then (nat_cmp k.size l.size) (ordering_then (nat_cmp k.node l.node) (nat_cmp k.next l.next)))

-- whether the first key comes first
abbrev pub is_first : PureCarrier → RouteKey → RouteKey → Bool
is_first c k l = is_less (compare_keys c k l)

-- no best of the node, or this key comes before it
abbrev pub beats : PureCarrier → RouteKey → Option RouteKey → Bool
beats c key None = true
beats c key (Some best) = is_first c key best

-- one key comes first, or there is it alone
abbrev pub is_ahead : PureCarrier → Option RouteKey → Option RouteKey → Bool
is_ahead c (Some k) (Some l) = is_first c k l
is_ahead c (Some k) None = true
is_ahead c None o = false

-- the key of one node comes before that of another, where none is last
abbrev pub precedes : PureCarrier → List (Option RouteKey) → ℕ → ℕ → Bool
precedes c best k m = is_ahead c (found_at best k) (found_at best m)

-- the key of a route with this value
abbrev pub key_at : OpenPlace → PureValue → RouteKey
key_at place v = record { value = v; size = place.size; node = place.node.0; next = place.next.0 }

-- the key of a route of the program, whose form of values stands for these
abbrev pub key_of : {S : Type 0} → (S → PureValue) → OpenRoute S → RouteKey
key_of value o = key_at o.place (value o.sig)

-- the same of the route or none of each node
abbrev pub best_of : {S : Type 0} → (S → PureValue) → List (Option (OpenRoute S)) → List (Option RouteKey)
best_of value best = map (option_map (key_of value)) best

-- the path of a route, if there is one
abbrev pub path_or_none : Option PureRoute → List ℕ
path_or_none None = []
path_or_none (Some r) = r.path

-- the route of a key, by the routes of the nodes that are fixed
abbrev pub route_of : Reported → RouteKey → PureRoute
route_of reported k = record { value = k.value; path = k.node ∷ path_or_none (reported k.next) }

-- the routes that are open
abbrev pub routes_of : Reported → List (Option RouteKey) → List (Option PureRoute)
routes_of reported best = map (option_map (route_of reported)) best

-- the path begins with the node
abbrev pub BeginsWith : ℕ → List ℕ → Type 0
BeginsWith n p = (rest : List ℕ) × (p ≡ n ∷ rest)

-- the next node is fixed and its path begins with it, and the size is one more than that of its path
pub record IsAfter (reported : Reported) (k : RouteKey) : Type 0 where
  pub next : PureRoute
  pub is_reported : reported k.next ≡ Some next
  pub begins : BeginsWith k.next next.path
  pub size : k.size ≡ length next.path + 1

-- the route of the node's own origin, or a route by a node that is fixed
abbrev pub IsShaped : Reported → RouteKey → Type 0
IsShaped reported k = ((k.next ≡ k.node) × (k.size ≡ 1)) ⊎ IsAfter reported k
