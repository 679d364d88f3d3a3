use Rattle.flood_node.specs.Runs.{cards_are_true}
use Rattle.flood_node.proofs.laws.cards_are_true.Goals as goal

pub returns : goal.returns
returns c = λ net nodes journal m i s n u e there. cards_are_true net nodes journal m n u e i s there
