use Rattle.path_vector.specs.Laws.{deliveries_are_coherent, drained_machines_are_stable}
use Rattle.path_vector.proofs.laws.drained_machines_are_stable.Goals as goal

pub returns-clause-coherent : goal.returns-clause-coherent
returns-clause-coherent c = deliveries_are_coherent

pub returns-clause-stable : goal.returns-clause-stable
returns-clause-stable c = drained_machines_are_stable
