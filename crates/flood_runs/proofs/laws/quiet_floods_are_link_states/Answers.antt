use Rattle.std.proofs.Common.{refl}
use Rattle.flood_node.specs.Ready.{new_are_unbegun}
use Rattle.flood_runs.specs.Floods.{new_nodes}
use Rattle.flood_runs.proofs.laws.quiet_floods_are_link_states.Goals as goal

pub returns : goal.returns
returns c net turns rows routed journal n is best =
    let end = is.phase in
    c.quiet_rows_are_link_states.ensures net (new_nodes net) is.states journal end.end rows routed n (new_are_unbegun net) end.phase.replayed (end.phase.drained refl) end.states_are end.count is.rows_are best
