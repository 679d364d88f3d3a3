use Rattle.flood_node.specs.Budgets.{floods_end}
use Rattle.flood_node.proofs.laws.floods_end.Goals as goal

pub returns : goal.returns
returns c = λ net start m journal n running e. floods_end net n start running journal m e
