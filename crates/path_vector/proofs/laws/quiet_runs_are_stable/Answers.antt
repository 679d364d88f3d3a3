use Rattle.path_vector.specs.Laws.{quiet_runs_are_stable}
use Rattle.path_vector.proofs.laws.quiet_runs_are_stable.Goals as goal

pub returns : goal.returns
returns c = quiet_runs_are_stable
