use Rattle.vector_rest.specs.MachineReads.{runs_end}
use Rattle.vector_rest.proofs.laws.vector_runs_end.Goals as goal

pub returns : goal.returns
returns c net start machine journal is_net mono coherent running e = runs_end net is_net start coherent mono running journal machine e
