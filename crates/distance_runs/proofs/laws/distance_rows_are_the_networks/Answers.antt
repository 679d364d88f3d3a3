use Rattle.distance_runs.specs.RunLaws.{rows_are_the_networks}
use Rattle.distance_runs.proofs.laws.distance_rows_are_the_networks.Goals as goal

pub returns : goal.returns
returns c net turns hops journal quiet n is = rows_are_the_networks net turns hops journal quiet n is
