use Rattle.std.proofs.Common.{arith}
use Rattle.demo_rest.specs.Most.{demo_turns}
use Rattle.demo_rest.proofs.Runs.{runs_are_quiet}
use Rattle.demo_rest.proofs.laws.generated_runs_are_quiet.Goals as goal

pub returns-clause-turns : goal.returns-clause-turns
returns-clause-turns c = runs_are_quiet

pub returns-clause-demo : goal.returns-clause-demo
returns-clause-demo c = λ seed n last quiet d runs. runs_are_quiet seed n demo_turns last quiet d (omega arith) runs
