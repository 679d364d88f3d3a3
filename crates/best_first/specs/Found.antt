-- What is found on the way to a table: for each node a route, or none.
use Rattle.std.specs.Prelude.{◌≡◌, ℕ, ◌+◌, List, [], ◌∷◌, cond, Option, Some, None, is_some, option_map, option_and_then, IfSome, slice_get, map, zero, suc}
use Rattle.std.proofs.Common.{refl}
use Rattle.alg_model.specs.Expressions.{PureCarrier, PureValue}
use Rattle.net_graph.specs.Nets.{PureNet, origin_value}
use Rattle.net_graph.specs.Routes.{PureRoute, is_better, Better}
use Rattle.net_graph.specs.Walks.{along}
use Rattle.net_graph.specs.Tables.{PureRow}

-- what was found for the node, if anything was
abbrev pub found_at : {X : Type 0} → List (Option X) → ℕ → Option X
found_at {X} found k = option_and_then (λ (o : Option X). o) (slice_get found k)

-- the same of what is made of each
pub found-map : {X Y : Type 0} (f : X → Y) (xs : List (Option X)) (k : ℕ) → found_at (map (option_map f) xs) k ≡ option_map f (found_at xs k)
found-map f [] k = refl
found-map f (x ∷ xs) zero = refl
found-map f (x ∷ xs) (suc k) = found-map f xs k

-- what was found for a node has the property
abbrev pub AllFound : {X : Type 0} → (X → Type 0) → List (Option X) → Type 0
AllFound P found = (k : ℕ) → IfSome (found_at found k) P

-- for how many nodes nothing was found
abbrev pub none_count : {X : Type 0} → List (Option X) → ℕ
none_count [] = 0
none_count (o ∷ os) = cond (is_some o) (none_count os) (none_count os + 1)

-- the better of what was found and what is offered
abbrev pub better_of : PureCarrier → Option PureRoute → Option PureRoute → Option PureRoute
better_of c found None = found
better_of c None (Some s) = Some s
better_of c (Some r) (Some s) = cond (is_better c s r) (Some s) (Some r)

-- what a node's own origin offers
abbrev pub own_offer : PureNet → ℕ → ℕ → Option PureRoute
own_offer net dest k = option_map (λ (v : PureValue). record { value = v; path = k ∷ [] }) (origin_value net dest k)

-- what the arc to node j, if there is one, makes of that node's route
abbrev pub arc_offer : PureNet → ℕ → ℕ → PureRoute → Option PureRoute
arc_offer net k j r = option_map (λ (v : PureValue). record { value = v; path = k ∷ r.path }) (along net k j (Some r.value))

-- a row
abbrev pub row_from : ℕ → ℕ → Option PureRoute → PureRow
row_from node dest o = record { node = node; dest = dest; route = o }

-- the rows of the nodes from i on
abbrev pub rows_from : ℕ → ℕ → List (Option PureRoute) → List PureRow
rows_from dest i [] = []
rows_from dest i (o ∷ os) = row_from i dest o ∷ rows_from dest (i + 1) os

-- the node has a route, and none that was found is better
abbrev pub IsBestOf : PureCarrier → List (Option PureRoute) → ℕ → Type 0
IsBestOf c found i = (r : PureRoute) × (found_at found i ≡ Some r) × ((k : ℕ) (s : PureRoute) → found_at found k ≡ Some s → ¬ Better c s r)
