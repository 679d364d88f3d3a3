use Rattle.std.proofs.Common.{refl}
use Rattle.flood_node.specs.Reach.{cards_sent}
use Rattle.flood_node.specs.Ready.{new_are_unbegun}
use Rattle.flood_runs.specs.FloodLaws.{spent_exactly}
use Rattle.flood_runs.specs.Floods.{new_nodes}
use Rattle.flood_runs.proofs.laws.floods_are_spent_exactly.Goals as goal

pub returns-clause-spent : goal.returns-clause-spent
returns-clause-spent c net turns rows journal quiet n is =
    let end = is.phase in
    let counted = c.deliveries_are_counted.ensures in
    spent_exactly net (cards_sent net) turns rows journal quiet is
    (λ drained. counted.drained net (new_nodes net) journal end.end n (new_are_unbegun net) end.phase.replayed drained)
    (λ not. counted.fewer net (new_nodes net) journal end.end n (new_are_unbegun net) end.phase.replayed not)

pub returns-clause-quiet : goal.returns-clause-quiet
returns-clause-quiet c net turns rows journal n is =
    let end = is.phase in
    c.deliveries_are_counted.ensures.drained net (new_nodes net) journal end.end n (new_are_unbegun net) end.phase.replayed (end.phase.drained refl)
