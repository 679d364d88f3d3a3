use Rattle.flood_node.specs.Reaching.{reaching_is_exact}
use Rattle.flood_node.proofs.laws.reaching_is_tested.Goals as goal

pub returns : goal.returns
returns c = λ net i j n l. reaching_is_exact net n i j l
