use Rattle.flood_node.specs.Runs.{quiet_rows_are}
use Rattle.flood_node.proofs.laws.quiet_rows_are_link_states.Goals as goal

pub returns : goal.returns
returns c = λ net nodes states journal m rows routed n u e drained are count reported whole. quiet_rows_are net nodes journal m n u e c.best_first_is_unique.ensures drained states are count rows routed reported whole
