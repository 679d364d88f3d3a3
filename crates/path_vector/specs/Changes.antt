-- What becomes of a node's row, and what it tells of that.
use Rattle.std.specs.Prelude.{◌≡◌, ℕ, false, Option, Some, None, IfSome, map, option_map}
use Rattle.alg_model.specs.Expressions.{PureValue}
use Rattle.net_graph.specs.Nets.{PureNet, arcs_to}
use Rattle.net_graph.specs.Routes.{PureRoute}
use Rattle.path_vector.specs.declared.rechoosing.RowChange.{RowChange}
use Rattle.path_vector.specs.Known.{known_route}
use Rattle.path_vector.specs.Node.{same_row, reported_on}
use Rattle.path_vector.specs.Updates.{noted}

-- the row that changed has a value in the algebra's form, if it is a route
abbrev pub HasSigs : {S : Type 0} → (S → Type 0) → Option (RowChange S) → Type 0
HasSigs is_sig change = IfSome change (λ c. IfSome c.row (λ k. is_sig k.sig))

-- the row stayed as it was, or it is another, which is reported to all listeners of the node
abbrev pub IsChange : {S : Type 0} → (S → PureValue) → PureNet → ℕ → ℕ → ℕ → Option PureRoute → Option PureRoute → Option (RowChange S) → Type 0
IsChange value net node dest clock before row None = row ≡ before
IsChange value net node dest clock before row (Some change) = (option_map (known_route value) change.row ≡ row) × (same_row row before ≡ false)
    × (map noted change.reported ≡ reported_on (arcs_to net node) (record { dest = dest; route = row; stamp = clock }))
