-- What nodes reported to each other, and what of it each of them heard last and has for its rows.
use Rattle.std.specs.Prelude.{◌≡◌, ℕ, ◌<◌, ◌==◌, ◌&&◌, false, List, [], ◌∷◌, ◌++◌, IfSome, map, length, Option, Some, cond, option_map, option_and_then, slice_get}
use Rattle.meta_base.specs.NodePaths.{numbers}
use Rattle.meta_base.specs.declared.ids.NodeId.{NodeId}
use Rattle.alg_model.specs.Expressions.{PureValue}
use Rattle.net_graph.specs.Nets.{PureNet}
use Rattle.net_graph.specs.Routes.{PureRoute}
use Rattle.path_store.specs.PathOf.{path_of, path_by}
use Rattle.path_vector.specs.Known.{entry_of}
use Rattle.path_vector.specs.Node.{PureUpdate}
use Rattle.path_vector.specs.Settling.{is_next}
use Rattle.vector_block.specs.declared.report.ReportId.{ReportId}
use Rattle.vector_block.specs.declared.report.Reported.{Reported}
use Rattle.vector_block.specs.declared.report.Report.{Report}
use Rattle.vector_block.specs.declared.report.Choice.{Choice}
use Rattle.vector_block.specs.declared.report.Column.{Column}
use Rattle.vector_block.specs.declared.store.Store.{Store}

-- all reports in order, each with its speaker; what was heard last on each arc of each destination; and the row of each
-- node for each destination
pub record PureStore : Type 0 where
  pub reports : List (ℕ × PureUpdate)
  pub heard : ℕ → ℕ → Option PureRoute
  pub rows : ℕ → ℕ → Option PureRoute

-- the same, but with this heard on an arc of a destination
abbrev pub with_heard : PureStore → ℕ → ℕ → Option PureRoute → PureStore
with_heard s arc dest route = record s { heard = λ a d. cond (a == arc && d == dest) route (s.heard a d) }

-- the same once a node has a row and reported it
abbrev pub with_report : PureStore → ℕ → PureUpdate → PureStore
with_report s node u = record s {
  reports = s.reports ++ (node, u) ∷ [];
  rows = λ i d. cond (i == node && d == u.dest) u.route (s.rows i d);
}

module _ {S : Type 0} (value : S → PureValue) where
  abbrev pub route_of : List (List NodeId) → Reported S → PureRoute
  route_of paths r = record { value = value r.sig; path = numbers (path_of paths r.path) }

  abbrev pub update_of : List (List NodeId) → Report S → PureUpdate
  update_of paths r = record { dest = r.dest.0; route = option_map (route_of paths) r.route; stamp = r.stamp }

  -- the route of a report, where there is one
  abbrev pub said_by : List (List NodeId) → List (Report S) → Option ReportId → Option PureRoute
  said_by paths reports id = option_and_then (λ (r : Report S). option_map (route_of paths) r.route) (option_and_then (λ (i : ReportId). slice_get reports i.0) id)

  -- what the store of these is to contracts
  abbrev pub pure_store : Store S → PureStore
  pure_store s = record {
    reports = map (λ (r : Report S). (r.node.0, update_of s.paths r)) s.reports.items;
    heard = λ arc dest. option_and_then (λ (c : Column). said_by s.paths s.reports.items (entry_of c.heard.items arc)) (slice_get s.columns.items dest);
    rows = λ node dest. option_and_then (λ (c : Column). said_by s.paths s.reports.items (entry_of c.rows.items node)) (slice_get s.columns.items dest);
  }

  -- the route of the node that a choice is
  abbrev pub chosen_route : List (List NodeId) → ℕ → Choice S → PureRoute
  chosen_route paths node c = record { value = value c.sig; path = node ∷ numbers (path_by paths c.rest) }

module _ {S : Type 0} (is_sig : S → Type 0) (net : PureNet) where
  -- A route of the node: its path is in the store. The node after the first is kept beside it: the node itself, where there
  -- is none.
  pub record IsReported (paths : List (List NodeId)) (node : ℕ) (r : Reported S) : Type 0 where
    pub sig : is_sig r.sig
    pub path : r.path.0 < length paths
    pub next : (j : ℕ) → (j == node) ≡ false → is_next j (numbers (path_of paths r.path)) ≡ (r.next.0 == j)

  pub record IsReport (paths : List (List NodeId)) (r : Report S) : Type 0 where
    pub node : r.node.0 < length net.nodes
    pub dest : r.dest.0 < length net.dests
    pub route : (x : Reported S) → r.route ≡ Some x → IsReported paths r.node.0 x

  -- one of the reports, by the node
  pub record IsRowOf (reports : List (Report S)) (node : ℕ) (id : ReportId) : Type 0 where
    pub report : Report S
    pub there : slice_get reports id.0 ≡ Some report
    pub by_node : report.node.0 ≡ node

  -- what was heard of a destination on each arc of the network, and each node's row: reports by their numbers
  pub record IsColumn (reports : List (Report S)) (c : Column) : Type 0 where
    pub heard_count : length c.heard.items ≡ length net.arcs
    pub row_count : length c.rows.items ≡ length net.nodes
    pub heard : (arc : ℕ) (id : ReportId) → entry_of c.heard.items arc ≡ Some id → id.0 < length reports
    pub rows : (node : ℕ) (id : ReportId) → entry_of c.rows.items node ≡ Some id → IsRowOf reports node id

  -- there is a column for each destination, and all reports are of the network
  pub record IsStored (s : Store S) : Type 0 where
    pub count : length s.columns.items ≡ length net.dests
    pub reports : (k : ℕ) (r : Report S) → slice_get s.reports.items k ≡ Some r → IsReport s.paths r
    pub columns : (dest : ℕ) (c : Column) → slice_get s.columns.items dest ≡ Some c → IsColumn s.reports.items c

  -- a value of the algebra, and a path of the store, or none
  pub record MayBeChosen (s : Store S) (c : Choice S) : Type 0 where
    pub sig : is_sig c.sig
    pub rest : IfSome c.rest (λ id. id.0 < length s.paths)
