use Rattle.distance_node.specs.Agreeing.{values_agree}
use Rattle.distance_node.specs.Quiet.{drained_rows_are_chosen}
use Rattle.distance_node.specs.Tables.{table_of}
use Rattle.distance_node.proofs.laws.quiet_values_are_link_states.Goals as goal

pub returns : goal.returns
returns c = λ net journal m dest best i n st iso e drained first within. values_agree net n dest (table_of m dest) (drained_rows_are_chosen net journal m dest n e drained) best (c.best_first_is_optimal.ensures net dest best n (c.strict_is_monotone.ensures net st) iso first) st iso i within
