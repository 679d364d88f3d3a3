-- The nodes that a phase ends with.
use Rattle.std.proofs.Common.{◌≡◌, ℕ, List, Bool, map, ◌∙◌}
use Rattle.std.specs.List.{AllByRecursion}
use Rattle.std.proofs.lemmas.Option.{slice_get-map}
use Rattle.meta_base.specs.declared.ids.Delivery.{Delivery}
use Rattle.net_graph.specs.Nets.{PureNet, IsNet}
use Rattle.node_core.specs.Machine.{AreUnbegun, Start}
use Rattle.node_core.specs.MachineLaws.{replay_runs, start_runs}
use Rattle.path_vector.specs.Lawful.{path_vector_is_lawful}
use Rattle.path_vector.specs.Node.{PvState, path_vector}
use Rattle.path_vector.specs.Nodes.{PureNode, state_of}
use Rattle.quiet_ledger.specs.declared.totals.Totals.{Totals}
use Rattle.testkit_nodes.specs.Starts.{nets_are}
use Rattle.weave.specs.Phases.{IsPhaseEnd}

-- they are of the phase's network
pub ended_nets : (net : PureNet) → IsNet net → (nodes : List PvState) → AreUnbegun path_vector net 0 nodes → (turns : ℕ) (journal : List Delivery) (ended : List PureNode) (totals : Totals) (quiet : Bool)
    → IsPhaseEnd path_vector net nodes turns journal (map state_of ended) totals quiet → AllByRecursion (λ (n : PureNode). n.net ≡ net) ended
ended_nets net is_net nodes unbegun turns journal ended totals quiet is =
    let running = replay_runs path_vector path_vector_is_lawful net is_net journal (Start path_vector nodes) is.end (start_runs path_vector path_vector_is_lawful net is_net nodes unbegun) is.phase.replayed in
    nets_are net is.end ended running (λ i. is.nodes_are i ∙ slice_get-map state_of ended i)
