use Rattle.std.proofs.Common.{map, subst}
use Rattle.std.specs.List.{AllByRecursion}
use Rattle.std.proofs.lemmas.List.{map-id}
use Rattle.flood_node.specs.Node.{FloodState}
use Rattle.flood_node.specs.Reported.{AreBegun, AreTrueCards}
use Rattle.flood_runs.proofs.finder.FloodFinderFinder.find.Goals as goal

pub flood_rows-requires-clause-nodes : goal.flood_rows-requires-clause-nodes
flood_rows-requires-clause-nodes g c =
    let net = c.args.net.now in
    let nodes = c.args.nodes.now in
    let run = c.requires.run in
    let end = run.phase in
    subst (AreBegun net 0) (map-id nodes)
    (c.replayed_nodes_are_ready.ensures.begun net run.nodes (map (λ n. n) nodes) run.journal end.end run.is_net run.unbegun end.phase.replayed end.states_are)

pub flood_rows-requires-clause-cards : goal.flood_rows-requires-clause-cards
flood_rows-requires-clause-cards g c =
    let net = c.args.net.now in
    let nodes = c.args.nodes.now in
    let run = c.requires.run in
    let end = run.phase in
    subst (AllByRecursion (λ (s : FloodState). AreTrueCards net s.cards)) (map-id nodes)
    (c.replayed_nodes_are_ready.ensures.cards net run.nodes (map (λ n. n) nodes) run.journal end.end run.is_net run.unbegun end.phase.replayed end.states_are)
