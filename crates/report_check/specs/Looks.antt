-- What a look at a table shows.
use Rattle.std.specs.Prelude.{◌≡◌, ℕ, List, [], ◌∷◌, true, false, Option, Some, None, IsSomeAnd, option_map, if◌then◌else◌}
use Rattle.std.specs.declared.cmp.Ordering.TheVariants.{Equal}
use Rattle.alg_model.specs.Carriers.{IsPreferred, Order}
use Rattle.alg_model.specs.Expressions.{PureCarrier, PureValue}
use Rattle.net_graph.specs.Routes.{PureRoute}
use Rattle.net_graph.specs.Tables.{is_among}
use Rattle.stable_check.specs.Checks.{Makes, Outdoes}
use Rattle.report_check.specs.declared.look.Shown.{Shown}

-- the nodes after the node itself, of an offer by its own origin, and of one by an arc to a node with this route
abbrev pub path_after : Option PureRoute → List ℕ
path_after None = []
path_after (Some next) = next.path

-- the offer of the value along these nodes to node i: none where they pass it
abbrev pub offer_after : ℕ → List ℕ → PureValue → Option PureRoute
offer_after i after v = if is_among after i then None else Some (record { value = v; path = i ∷ after })

-- what is shown of a row by the offer of a value to node i, by its own origin or by an arc to a node with this route
pub record Shows (c : PureCarrier) (i : ℕ) (next : Option PureRoute) (v : PureValue) (row : Option PureRoute) (shown : Shown) : Type 0 where
  pub improves : shown.improves ≡ false → ¬ IsPreferred c (Some v) (option_map (λ (r : PureRoute). r.value) row)
  pub makes : shown.makes ≡ true → Makes (offer_after i (path_after next) v) row
  pub outdoes : shown.outdoes ≡ false → ¬ Outdoes c (offer_after i (path_after next) v) row

-- the row has a route, and neither its value nor this one is preferred to the other
abbrev pub IsAsGood : PureCarrier → PureValue → Option PureRoute → Type 0
IsAsGood c v row = IsSomeAnd row (λ (r : PureRoute). Order c v r.value ≡ Equal)
