use Rattle.vector_rest.specs.EndLaws.{begun_runs_end}
use Rattle.vector_rest.proofs.laws.begun_runs_end.Goals as goal

pub returns : goal.returns
returns c net nodes journal machine is_net mono may e = begun_runs_end net nodes journal machine is_net mono may e
