use Rattle.vector_runs.specs.Laws.{phases_are_of_networks}
use Rattle.vector_runs.proofs.laws.phases_are_of_networks.Goals as goal

pub returns : goal.returns
returns c = phases_are_of_networks
