use Rattle.demo_rest.proofs.Runs.{runs_are_short}
use Rattle.demo_rest.proofs.laws.generated_runs_are_short.Goals as goal

pub returns : goal.returns
returns c = runs_are_short
