-- Levels of routes, what is known on an arc, and the budget of an update.
use Rattle.std.specs.Prelude.{◌≡◌, ◌≢◌, ℕ, ◌+◌, ◌-◌, ◌*◌, ◌<◌, ◌≤◌, ◌==◌, false, min, List, Option, Some, None, cond, filter, length, option_and_then}
use Rattle.alg_model.specs.Expressions.{PureCarrier, PureValue}
use Rattle.alg_model.specs.Carriers.{In, Order}
use Rattle.net_graph.specs.Nets.{PureNet}
use Rattle.net_graph.specs.Routes.{PureRoute, Better, is_less}
use Rattle.net_graph.specs.Tables.{Reported, carrier, IsOfferBy, IsChoice}
use Rattle.node_core.specs.Kinds.{listener}
use Rattle.node_core.specs.Machine.{Machine}
use Rattle.path_vector.specs.Items.{IsItem}
use Rattle.path_vector.specs.Node.{PvState, PureUpdate}
use Rattle.settled_laws.specs.Offers.{ReportsOwnPaths}
use Rattle.vector_rest.specs.Reached.{reached, start_values}

-- how many of the values are preferred to this one
abbrev pub rank : PureCarrier → List PureValue → PureValue → ℕ
rank c values v = length (filter (λ u. is_less (Order c u v)) values)

-- The level of a route with one of the values and a path of at most n nodes: a better value has a lower level, and of
-- equivalent values the one with the shorter path. No route at all has the highest level.
abbrev pub level : PureCarrier → List PureValue → ℕ → Option PureRoute → ℕ
level c values n (Some r) = rank c values r.value * n + (length r.path - 1)
level c values n None = length values * n

-- the route has one of the values, and a path of 1 to n nodes
pub record Occurs (values : List PureValue) (n : ℕ) (r : PureRoute) : Type 0 where
  pub among : IsItem r.value values
  pub some : 1 ≤ length r.path
  pub few : length r.path ≤ n

-- each route that a neighbour reports is one of these
abbrev pub ReportsOnly : (PureRoute → Type 0) → Reported → Type 0
ReportsOnly Has reported = (j : ℕ) (next : PureRoute) → reported j ≡ Some next → Has next

-- What the neighbours of node i report changes for one neighbour, j, and its choice changes from r to s. All routes are
-- of these, and begin with the node that reports them.
pub record ChangesByOne (net : PureNet) (Has : PureRoute → Type 0) (dest i j : ℕ) (reported other : Reported) (r s : Option PureRoute) : Type 0 where
  pub has : ReportsOnly Has reported
  pub has_other : ReportsOnly Has other
  pub own_paths : ReportsOwnPaths reported
  pub one : (m : ℕ) → (m == j) ≡ false → reported m ≡ other m
  pub choice : IsChoice net dest reported i r
  pub choice_other : IsChoice net dest other i s
  pub is : (x : PureRoute) → r ≡ Some x → Has x
  pub is_other : (x : PureRoute) → s ≡ Some x → Has x
  pub changed : r ≢ s

-- Levels of these routes: an arc raises the level, a route has no higher level than one that isn't better than it, and
-- none has the highest.
pub record AreLevels (net : PureNet) (Has : PureRoute → Type 0) (level : Option PureRoute → ℕ) : Type 0 where
  pub values : (r : PureRoute) → Has r → In (carrier net) r.value
  pub extends : (reported : Reported) (i j : ℕ) (r : PureRoute) → (o : IsOfferBy net reported i j r) → Has o.next → Has r → level (Some o.next) < level (Some r)
  pub orders : (r s : PureRoute) → Has r → Has s → ¬ Better (carrier net) s r → level (Some r) ≤ level (Some s)
  pub tops : (r : PureRoute) → Has r → level (Some r) ≤ level None

-- what is known of each destination after an update
abbrev pub learn : (ℕ → Option PureRoute) → PureUpdate → ℕ → Option PureRoute
learn known u dest = cond (u.dest == dest) u.route (known dest)

-- what the listener of an arc heard there last, of each destination
abbrev pub known_on : PureNet → Machine PvState PureUpdate → ℕ → ℕ → Option PureRoute
known_on net c a dest = option_and_then (λ i. option_and_then (λ (s : PvState). s.heard a dest) (c.node i)) (listener net a)

-- the values that can occur for a destination in the machines that this one leads to
abbrev pub values_from : PureNet → Machine PvState PureUpdate → ℕ → List PureValue
values_from net start dest = reached net (start_values net start dest) (length net.nodes)

-- the level of a route for a destination, by those values
abbrev pub level_from : PureNet → Machine PvState PureUpdate → ℕ → Option PureRoute → ℕ
level_from net start dest r = level (carrier net) (values_from net start dest) (length net.nodes) r

-- The budget of an update: how far the level of what was known before it, or of what it says where that is lower, is
-- below the level of none.
abbrev pub budget_from : PureNet → Machine PvState PureUpdate → (ℕ → Option PureRoute) → PureUpdate → ℕ
budget_from net start known u = level_from net start u.dest None - min (level_from net start u.dest (known u.dest)) (level_from net start u.dest u.route)
