-- Nodes that are begun on a network have it, and what the workers made of new nodes is a run of them.
use Rattle.std.proofs.Common.{◌≡◌, ℕ, ◌+◌, List, [], ◌∷◌, Bool, map, subst}
use Rattle.std.specs.List.{AllByRecursion}
use Rattle.meta_base.specs.declared.ids.Delivery.{Delivery}
use Rattle.net_graph.specs.Nets.{PureNet, IsNet}
use Rattle.node_runs.specs.RunLaws.{ended_phase}
use Rattle.node_runs.specs.Runs.{AreBegun, IsPhaseOf}
use Rattle.quiet_ledger.specs.declared.totals.Totals.{Totals}
use Rattle.weave.specs.Phases.{IsPhaseEnd}
use Rattle.distance_node.specs.Delivering.{runs_are_coherent}
use Rattle.distance_node.specs.Node.{DvState, distance, new_nodes}
use Rattle.distance_node.specs.Nodes.{PureNode, state_of}

pub begun_nets : (net : PureNet) (i : ℕ) (nodes : List PureNode) → AreBegun distance net i (map state_of nodes) → AllByRecursion (λ (n : PureNode). n.net ≡ net) nodes
begun_nets net i [] are = tt
begun_nets net i (n ∷ nodes) are = (are.0, begun_nets net (i + 1) nodes are.3)

pub same_phase : (net : PureNet) (nodes : List DvState) (turns : ℕ) (journal : List Delivery) (ended : List DvState) (totals : Totals) (quiet : Bool) → IsNet net → nodes ≡ new_nodes net
    → IsPhaseEnd distance net nodes turns journal ended totals quiet → IsPhaseOf distance net (new_nodes net) turns journal quiet ended
same_phase net nodes turns journal ended totals quiet n same is =
    let all = subst (λ z. IsPhaseEnd distance net z turns journal ended totals quiet) same is in
    ended_phase distance net (new_nodes net) turns journal ended totals quiet all (runs_are_coherent net journal all.end n all.phase.replayed).running
