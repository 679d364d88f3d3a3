use Rattle.std.proofs.Common.{ℕ, map, subst, sym, ◌∙◌}
use Rattle.std.proofs.lemmas.Option.{slice_get-map}
use Rattle.node_core.specs.Machine.{AreUnbegun}
use Rattle.node_core.specs.MachineOf.{machine_of, net_of}
use Rattle.path_vector.specs.Node.{path_vector}
use Rattle.path_vector.specs.Nodes.{state_of}
use Rattle.path_vector.specs.Updates.{pure_update}
use Rattle.vector_runs.specs.NodeLaws.{carried_are_unbegun, states_begun}
use Rattle.testkit_nodes.proofs.scripts.carried_from.Goals as goal

pub carried_nodes-requires : goal.carried_nodes-requires
carried_nodes-requires g c =
    let config = c.args.config in
    let nodes = c.into_parts-nodes.result.0 in
    let at = λ (i : ℕ). c.into_parts-nodes.ensures.nodes i ∙ sym (slice_get-map state_of nodes i) in
    (net_of config, c.requires.next, states_begun (net_of config) (machine_of state_of pure_update config) (map state_of nodes) c.requires.running at)

pub returns : goal.returns
returns g c =
    let config = c.args.config in
    let nodes = c.into_parts-nodes.result.0 in
    let at = λ (i : ℕ). c.into_parts-nodes.ensures.nodes i ∙ sym (slice_get-map state_of nodes i) in
    let begun = states_begun (net_of config) (machine_of state_of pure_update config) (map state_of nodes) c.requires.running at in
    subst (AreUnbegun path_vector c.args.next.now 0) (sym c.in_ok-carried.ensures) (carried_are_unbegun (net_of config) c.args.next.now c.requires.next 0 (map state_of nodes) begun)
