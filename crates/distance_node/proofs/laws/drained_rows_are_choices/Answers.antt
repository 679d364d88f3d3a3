use Rattle.distance_node.specs.Quiet.{drained_rows_are_chosen}
use Rattle.distance_node.proofs.laws.drained_rows_are_choices.Goals as goal

pub returns : goal.returns
returns c = drained_rows_are_chosen
