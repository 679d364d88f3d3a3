use Rattle.vector_rest.specs.MachineReads.{are_read}
use Rattle.vector_rest.proofs.laws.updates_are_read.Goals as goal

pub returns : goal.returns
returns c net start is_net mono coherent = are_read net is_net start coherent mono
