use Rattle.flood_node.specs.Ready.{states_begun, states_hold_true_cards}
use Rattle.flood_node.proofs.laws.machines_hold_true_cards.Goals as goal

pub returns-clause-begun : goal.returns-clause-begun
returns-clause-begun c = λ net m states f are. states_begun net m f states are

pub returns-clause-cards : goal.returns-clause-cards
returns-clause-cards c = λ net m states f are. states_hold_true_cards net m f states are
