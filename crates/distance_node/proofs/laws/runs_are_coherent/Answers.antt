use Rattle.distance_node.specs.Delivering.{runs_are_coherent}
use Rattle.distance_node.proofs.laws.runs_are_coherent.Goals as goal

pub returns : goal.returns
returns c = runs_are_coherent
