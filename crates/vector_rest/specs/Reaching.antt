-- What is heard and what waits in the machines that one leads to.
use Rattle.std.specs.Prelude.{◌≡◌, ℕ, Some, length, slice_get}
use Rattle.std.specs.List.{AllByRecursion}
use Rattle.net_graph.specs.Nets.{PureArc, PureNet}
use Rattle.net_graph.specs.Routes.{PureRoute}
use Rattle.node_core.specs.Machine.{Machine}
use Rattle.path_vector.specs.Node.{PvState, PureUpdate}
use Rattle.path_vector.specs.Items.{IsItem}
use Rattle.vector_rest.specs.Reached.{reached, start_values}

-- the route's value is one of those at the start, or of those that as many labels make of them as its path has nodes
abbrev pub IsReached : PureNet → Machine PvState PureUpdate → ℕ → PureRoute → Type 0
IsReached net start dest r = IsItem r.value (reached net (start_values net start dest) (length r.path))

abbrev pub SaysReached : PureNet → Machine PvState PureUpdate → PureUpdate → Type 0
SaysReached net start u = (r : PureRoute) → u.route ≡ Some r → IsReached net start u.dest r

-- so is each that was heard
abbrev pub HeardReached : PureNet → Machine PvState PureUpdate → Machine PvState PureUpdate → Type 0
HeardReached net start c = (a : PureArc) (s : PvState) (dest : ℕ) (r : PureRoute) → slice_get net.arcs a.id ≡ Some a → c.node a.tail ≡ Some s → s.heard a.id dest ≡ Some r
    → IsReached net start dest r

-- and each that waits
abbrev pub WaitsReached : PureNet → Machine PvState PureUpdate → Machine PvState PureUpdate → Type 0
WaitsReached net start c = (a : PureArc) → slice_get net.arcs a.id ≡ Some a → AllByRecursion (SaysReached net start) (c.link a.id)
