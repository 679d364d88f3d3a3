use Rattle.flood_node.specs.Totals.{drained_deliveries, fewer_deliveries}
use Rattle.flood_node.proofs.laws.deliveries_are_counted.Goals as goal

pub returns-clause-drained : goal.returns-clause-drained
returns-clause-drained c = λ net nodes journal m n u e drained. drained_deliveries net n nodes u journal m e drained

pub returns-clause-fewer : goal.returns-clause-fewer
returns-clause-fewer c = λ net nodes journal m n u e not. fewer_deliveries net n nodes u journal m e not
