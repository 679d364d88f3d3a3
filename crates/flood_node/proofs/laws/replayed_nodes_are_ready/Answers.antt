use Rattle.flood_node.specs.Ready.{states_begun, states_hold_true_cards}
use Rattle.flood_node.specs.Truth.{replays_flood}
use Rattle.flood_node.proofs.laws.replayed_nodes_are_ready.Goals as goal

pub returns-clause-begun : goal.returns-clause-begun
returns-clause-begun c = λ net nodes states journal m n u e are. states_begun net m (replays_flood net n nodes journal m u e) states are

pub returns-clause-cards : goal.returns-clause-cards
returns-clause-cards c = λ net nodes states journal m n u e are. states_hold_true_cards net m (replays_flood net n nodes journal m u e) states are
