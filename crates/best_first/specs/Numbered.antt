-- How the routes of the nodes that are fixed are kept: values in the order of their paths.
use Rattle.std.specs.Prelude.{◌≡◌, ◌<◌, List, Option, map, option_map, option_and_then, length, slice_get}
use Rattle.meta_base.specs.declared.ids.NodeId.{NodeId}
use Rattle.path_store.specs.declared.trails.PathId.{PathId}
use Rattle.best_first.specs.declared.fixed.FixedRoute.{FixedRoute}
use Rattle.best_first.specs.Found.{AllFound}

-- the route of a node that is fixed: its value in the algebra's own form, and its path
pub record PureFixedRoute (S : Type 0) : Type 0 where
  pub sig : S
  pub path : PathId

-- for each node its route, or none where it isn't fixed, and the paths
pub record PureFixed (S : Type 0) : Type 0 where
  pub rows : List (Option (PureFixedRoute S))
  pub paths : List (List NodeId)

-- the route that is lent
abbrev pub lent_fixed : {S : Type 0} → FixedRoute S → PureFixedRoute S
lent_fixed f = record { sig = f.sig.now; path = f.path }

-- the route that has this path, by the values of all routes
abbrev pub route_by : {S : Type 0} → List S → PathId → Option (PureFixedRoute S)
route_by sigs id = option_map (λ s. record { sig = s; path = id }) (slice_get sigs id.0)

-- the route or none of each node, by the number of its path
abbrev pub rows_by : {S : Type 0} → List S → List (Option PathId) → List (Option (PureFixedRoute S))
rows_by sigs ids = map (λ o. option_and_then (route_by sigs) o) ids

-- each path has a value, and each route a path
pub record AreNumbered {S : Type 0} (sigs : List S) (ids : List (Option PathId)) (paths : List (List NodeId)) : Type 0 where
  pub count : length sigs ≡ length paths
  pub within : AllFound (λ id. id.0 < length sigs) ids
