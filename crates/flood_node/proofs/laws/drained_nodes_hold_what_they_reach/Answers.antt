use Rattle.flood_node.specs.Runs.{holds_reached, reached_is_held}
use Rattle.flood_node.proofs.laws.drained_nodes_hold_what_they_reach.Goals as goal

pub returns : goal.returns
returns c = λ net nodes journal m i j s n u e drained there. (
  λ h. holds_reached net nodes journal m n u e i j s there h,
  λ r. reached_is_held net nodes journal m n u e drained i j s there r,
)
