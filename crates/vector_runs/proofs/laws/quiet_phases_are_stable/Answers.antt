use Rattle.vector_runs.specs.Laws.{quiet_phases_are_stable}
use Rattle.vector_runs.proofs.laws.quiet_phases_are_stable.Goals as goal

pub returns : goal.returns
returns c = quiet_phases_are_stable
