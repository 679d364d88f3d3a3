-- The printed text of a row.
use Rattle.std.specs.Prelude.{ℕ, ◌<◌, List, [], ◌∷◌, ◌++◌, Option, Some, None, IfSome, length, codes, slice_index_or}
use Rattle.std.specs.List.{AllByRecursion}
use Rattle.alg_model.specs.Carriers.{In}
use Rattle.alg_model.specs.Texts.{value_text}
use Rattle.net_graph.specs.Nets.{PureNet}
use Rattle.net_graph.specs.Routes.{PureRoute}
use Rattle.net_graph.specs.Tables.{PureRow, carrier}

-- a node's name, and a destination's
abbrev pub node_text : PureNet → ℕ → List ℕ
node_text net node = slice_index_or net.nodes node []

abbrev pub dest_text : PureNet → ℕ → List ℕ
dest_text net dest = slice_index_or net.dests dest []

-- the names of the nodes of a path, each after a space
abbrev pub path_text : PureNet → List ℕ → List ℕ
path_text net [] = []
path_text net (node ∷ path) = codes " " ++ node_text net node ++ path_text net path

-- the value and the path, or the word none
abbrev pub route_text : PureNet → Option PureRoute → List ℕ
route_text net None = codes "none"
route_text net (Some r) = value_text (carrier net) r.value ++ path_text net r.path

-- the node, the destination and the route, and a line feed
abbrev pub row_text : PureNet → PureRow → List ℕ
row_text net row = node_text net row.node ++ codes " " ++ dest_text net row.dest ++ codes " " ++ route_text net row.route ++ codes "\n"

-- these are nodes of the network
abbrev pub AreNodesOf : PureNet → List ℕ → Type 0
AreNodesOf net path = AllByRecursion (λ i. i < length net.nodes) path

-- the ids and the value of a row are the network's
pub record IsRouteIn (net : PureNet) (r : PureRoute) : Type 0 where
  pub value_in : In (carrier net) r.value
  pub path_in : AreNodesOf net r.path

pub record IsRowOf (net : PureNet) (row : PureRow) : Type 0 where
  pub node_in : row.node < length net.nodes
  pub dest_in : row.dest < length net.dests
  pub route_in : IfSome row.route (IsRouteIn net)
