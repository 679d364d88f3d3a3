use Rattle.std.proofs.Common.{refl}
use Rattle.distance_runs.specs.RunLaws.{values_agree}
use Rattle.distance_runs.proofs.laws.quiet_values_are_link_states.Goals as goal

pub returns : goal.returns
returns c net turns hops routed journal n st iso is tables =
    let end = is.phase in
    values_agree net turns hops routed journal n is
    (λ dest i best first within. c.quiet_values_are_link_states.ensures net journal end.end dest best i n st iso end.phase.replayed (end.phase.drained refl) first within)
    tables
