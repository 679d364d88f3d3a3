use Rattle.std.proofs.Common.{◌∙◌, slice_get, subst, sym}
use Rattle.std.specs.List.{AllByRecursion}
use Rattle.std.proofs.lemmas.Iterator.Adapters.{option_map_id}
use Rattle.node_core.specs.MachineOf.{machine_of, net_of}
use Rattle.flood_node.specs.Node.{FloodState}
use Rattle.flood_node.specs.Ready.{states_begun, states_hold_true_cards}
use Rattle.flood_node.specs.Reported.{AreBegun, AreTrueCards}
use Rattle.flood_node.specs.Views.{pure_flooded}
use Rattle.flood_tests.proofs.floods.rows_now.Goals as goal

pub flood_rows-requires-clause-nodes : goal.flood_rows-requires-clause-nodes
flood_rows-requires-clause-nodes c =
    let config = c.args.config.now in
    let nodes = c.nodes.result.now in
    subst (λ net. AreBegun net 0 nodes) (sym c.net-net.ensures) (states_begun (net_of config) (machine_of (λ n. n) pure_flooded config) c.requires nodes (λ i. c.nodes.ensures i ∙ option_map_id (slice_get nodes i)))

pub flood_rows-requires-clause-cards : goal.flood_rows-requires-clause-cards
flood_rows-requires-clause-cards c =
    let config = c.args.config.now in
    let nodes = c.nodes.result.now in
    subst (λ net. AllByRecursion (λ (s : FloodState). AreTrueCards net s.cards) nodes) (sym c.net-net.ensures)
    (states_hold_true_cards (net_of config) (machine_of (λ n. n) pure_flooded config) c.requires nodes (λ i. c.nodes.ensures i ∙ option_map_id (slice_get nodes i)))
