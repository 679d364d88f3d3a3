-- What the rows of a machine's nodes are.
use Rattle.std.proofs.Common.{◌≡◌, ℕ, List, map, option_map, slice_get, Result, Ok, Err, IfOk, sym, ap, ◌∙◌}
use Rattle.std.proofs.lemmas.Option.{slice_get-map}
use Rattle.net_graph.specs.Nets.{PureNet}
use Rattle.net_graph.specs.Views.{pure_row}
use Rattle.net_graph.specs.declared.route.RouteRow.{RouteRow}
use Rattle.node_core.specs.Machine.{Machine}
use Rattle.path_vector.specs.Node.{PvState, PureUpdate, node_rows}
use Rattle.path_vector.specs.Nodes.{PureNode, state_of}
use Rattle.testkit_nodes.proofs.Rows.{same_places}

pub rows_reported : {E : Type 0} (net : PureNet) (c : Machine PvState PureUpdate) (nodes : List PureNode) (r : Result (List RouteRow) E) → ((i : ℕ) → c.node i ≡ option_map state_of (slice_get nodes i))
    → IfOk r (λ rows. map pure_row rows ≡ node_rows net (map state_of nodes))
    → IfOk r (λ rows. (states : List PvState) → ((i : ℕ) → c.node i ≡ slice_get states i) → map pure_row rows ≡ node_rows net states)
rows_reported net c nodes (Err x) at reported = tt
rows_reported net c nodes (Ok rows) at reported = λ states are.
    reported ∙ ap (node_rows net) (same_places (map state_of nodes) states (λ i. slice_get-map state_of nodes i ∙ (sym (at i) ∙ are i)))
