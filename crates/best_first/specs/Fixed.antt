-- The routes of the nodes that are fixed.
use Rattle.std.specs.Prelude.{◌≡◌, ℕ, ◌+◌, ◌<◌, List, [], Option, Some, None, map, option_map, length, if◌then◌else◌, ◌==◌}
use Rattle.meta_base.specs.declared.ids.NodeId.{NodeId}
use Rattle.meta_base.specs.NodePaths.{numbers}
use Rattle.path_store.specs.PathOf.{path_of}
use Rattle.alg_model.specs.Expressions.{PureCarrier, PureValue}
use Rattle.net_graph.specs.Nets.{CanBeNumbered, PureNet}
use Rattle.net_graph.specs.Routes.{PureRoute}
use Rattle.net_graph.specs.Tables.{BestFirst, PureRow, Reported}
use Rattle.best_first.specs.declared.route.OpenRoute.{OpenRoute}
use Rattle.best_first.specs.Found.{found_at, AllFound, none_count, rows_from, IsBestOf}
use Rattle.best_first.specs.Keys.{best_of, routes_of}
use Rattle.best_first.specs.Ranges.{AreFrom}
use Rattle.best_first.specs.Numbered.{PureFixed, PureFixedRoute}

-- the route of a node that is fixed, by the value and the path that stand for it
abbrev pub fixed_route : {S : Type 0} → (S → PureValue) → List (List NodeId) → PureFixedRoute S → PureRoute
fixed_route value paths f = record { value = value f.sig; path = numbers (path_of paths f.path) }

-- the same of the route or none of each node
abbrev pub fixed_routes : {S : Type 0} → (S → PureValue) → List (List NodeId) → List (Option (PureFixedRoute S)) → List (Option PureRoute)
fixed_routes value paths rows = map (option_map (fixed_route value paths)) rows

-- the rows of a destination that these are
abbrev pub fixed_rows : {S : Type 0} → (S → PureValue) → ℕ → PureFixed S → List PureRow
fixed_rows value dest fixed = rows_from dest 0 (fixed_routes value fixed.paths fixed.rows)

-- what the rows tell
abbrev pub reported_by : {S : Type 0} → (S → PureValue) → List (List NodeId) → List (Option (PureFixedRoute S)) → Reported
reported_by value paths rows = found_at (fixed_routes value paths rows)

-- the routes that are open, by the rows
abbrev pub open_routes : {S : Type 0} → (S → PureValue) → List (List NodeId) → List (Option (PureFixedRoute S)) → List (Option (OpenRoute S)) → List (Option PureRoute)
open_routes value paths rows best = routes_of (reported_by value paths rows) (best_of value best)

-- the path that stands for a fixed route, if there is one
abbrev pub path_after : {S : Type 0} → List (List NodeId) → Option (PureFixedRoute S) → List NodeId
path_after paths None = []
path_after paths (Some f) = path_of paths f.path

-- each row's path is in the store, which has no more of them
pub record AreFixedBy {S : Type 0} (is_sig : S → Type 0) (rows : List (Option (PureFixedRoute S))) (paths : List (List NodeId)) : Type 0 where
  pub sigs : AllFound (λ f. is_sig f.sig) rows
  pub ids : AllFound (λ f. f.path.0 < length paths) rows
  pub room : length paths + none_count rows ≡ length rows

-- node i was fixed: its best route was the best of all, and is its row now
pub record FixesNext {S : Type 0} (value : S → PureValue) (c : PureCarrier) (rows : List (Option (PureFixedRoute S))) (paths : List (List NodeId)) (best : List (Option (OpenRoute S)))
    (new_rows : List (Option (PureFixedRoute S))) (new_paths : List (List NodeId)) (new_best : List (Option (OpenRoute S))) (i : ℕ) : Type 0 where
  pub best_of_all : IsBestOf c (open_routes value paths rows best) i
  pub rows_at : (k : ℕ) → reported_by value new_paths new_rows k ≡ (if k == i then found_at (open_routes value paths rows best) i else reported_by value paths rows k)
  pub open_at : (k : ℕ) → found_at (open_routes value new_paths new_rows new_best) k ≡ (if k == i then None else found_at (open_routes value paths rows best) k)
  pub fewer : none_count new_rows + 1 ≡ none_count rows

-- nothing is open, and no row has changed
pub record FixesNone {S : Type 0} (rows : List (Option (PureFixedRoute S))) (paths : List (List NodeId)) (best : List (Option (OpenRoute S)))
    (new_rows : List (Option (PureFixedRoute S))) (new_paths : List (List NodeId)) : Type 0 where
  pub none : (k : ℕ) → found_at best k ≡ None
  pub rows_same : new_rows ≡ rows
  pub paths_same : new_paths ≡ paths

-- the routes are those of destination k, made best first, with values in the algebra's form, one for each node or none
pub record IsFixedOf {S : Type 0} (value : S → PureValue) (is_sig : S → Type 0) (net : PureNet) (k : ℕ) (found : PureFixed S) : Type 0 where
  pub best_first : BestFirst net k (fixed_rows value k found)
  pub fixed : AreFixedBy is_sig found.rows found.paths
  pub count : length found.rows ≡ length net.nodes
  pub few : CanBeNumbered (length net.nodes)

-- the routes are those of the destinations from k on, in order
abbrev pub AreFixedFrom : {S : Type 0} → (S → PureValue) → (S → Type 0) → PureNet → ℕ → List (PureFixed S) → Type 0
AreFixedFrom value is_sig net k found = AreFrom (IsFixedOf value is_sig net) k found
