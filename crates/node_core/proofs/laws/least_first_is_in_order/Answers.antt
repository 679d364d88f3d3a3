use Rattle.node_core.specs.OrderLaws.{least_first}
use Rattle.node_core.proofs.laws.least_first_is_in_order.Goals as goal

pub returns : goal.returns
returns g c net start machine next journal e = least_first g.N.NodeCore.kind g.met.N.NodeCore.lawful net start machine next journal e
