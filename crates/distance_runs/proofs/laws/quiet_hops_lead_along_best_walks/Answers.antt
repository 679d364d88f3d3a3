use Rattle.distance_runs.specs.RunLaws.{are_best_hops}
use Rattle.distance_runs.proofs.laws.quiet_hops_lead_along_best_walks.Goals as goal

pub returns : goal.returns
returns c net turns hops journal n st iso is = are_best_hops net n turns hops journal is st iso
