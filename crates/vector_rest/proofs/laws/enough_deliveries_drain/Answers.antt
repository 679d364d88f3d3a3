use Rattle.vector_rest.specs.DrainLaws.{enough_deliveries_drain}
use Rattle.vector_rest.proofs.laws.enough_deliveries_drain.Goals as goal

pub returns : goal.returns
returns c net nodes journal machine is_net mono may e enough = enough_deliveries_drain net nodes journal machine is_net mono may e enough
