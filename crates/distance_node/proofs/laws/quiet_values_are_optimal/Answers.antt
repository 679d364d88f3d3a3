use Rattle.distance_node.specs.Agreeing.{values_agree}
use Rattle.distance_node.proofs.laws.quiet_values_are_optimal.Goals as goal

pub returns : goal.returns
returns c = λ net dest table best i n m p chosen is_best within. values_agree net n dest table chosen best is_best m p i within
