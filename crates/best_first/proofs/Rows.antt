-- The rows of a table whose routes are walks are the network's.
use Rattle.std.proofs.Common.{◌≡◌, ℕ, ◌+◌, ◌<◌, ◌≤◌, List, [], ◌∷◌, Option, Some, None, IfSome, length, arith, refl, suc}
use Rattle.std.specs.List.{AllByRecursion}
use Rattle.net_graph.specs.Nets.{PureNet, IsNet}
use Rattle.net_graph.specs.Routes.{PureRoute}
use Rattle.net_graph.specs.Walks.{Walk}
use Rattle.net_graph.specs.Tables.{PureRow, route_at, AreRowsFrom, IsRouteOf, BestFirst}
use Rattle.net_graph.specs.RowTexts.{AreNodesOf, IsRouteIn, IsRowOf}
use Rattle.net_graph.specs.ArcLaws.{walk_within}
use Rattle.best_first.proofs.Sound.{best_first_walks}

-- the nodes of a walk are the network's
walk_nodes : (net : PureNet) → IsNet net → (dest : ℕ) (p : List ℕ) → Walk net dest p → AreNodesOf net p
walk_nodes net n dest [] w = absurd w
walk_nodes net n dest (i ∷ []) w = (walk_within net n dest i [] w, tt)
walk_nodes net n dest (i ∷ j ∷ p) w = (walk_within net n dest i (j ∷ p) w, walk_nodes net n dest (j ∷ p) w.1)

route_in : (net : PureNet) → IsNet net → (dest : ℕ) (o : Option PureRoute) → IfSome o (IsRouteOf net)
    → ((r : PureRoute) → o ≡ Some r → Walk net dest r.path) → IfSome o (IsRouteIn net)
route_in net n dest None h w = tt
route_in net n dest (Some r) h w = record { value_in = h.value_in; path_in = walk_nodes net n dest r.path (w r refl) }

rows_in : (net : PureNet) → IsNet net → (dest i : ℕ) → dest < length net.dests → (rows : List PureRow) → AreRowsFrom net dest i rows → i + length rows ≤ length net.nodes
    → ((k : ℕ) (r : PureRoute) → route_at rows k ≡ Some r → Walk net dest r.path) → AllByRecursion (IsRowOf net) rows
rows_in net n dest i d [] are fits w = tt
rows_in net n dest i d (row ∷ rows) are fits w =
    let node : row.node < length net.nodes = omega (arith, are.0) in
    let same : row.dest < length net.dests = omega (arith, are.1) in (
      record { node_in = node; dest_in = same; route_in = route_in net n dest row.route are.2 (λ r e. w 0 r e) },
      rows_in net n dest (i + 1) d rows are.3 (omega arith) (λ k r e. w (suc k) r e),
    )

pub best_first_rows : (net : PureNet) (dest : ℕ) (t : List PureRow) → IsNet net → dest < length net.dests → BestFirst net dest t → AllByRecursion (IsRowOf net) t
best_first_rows net dest t n d h = rows_in net n dest 0 d t h.table_of.rows (omega (arith, h.table_of.count)) (λ k r e. (best_first_walks net dest t n h k r e).0)
