use Rattle.woven_laws.proofs.Counting.{woven_count}
use Rattle.woven_laws.proofs.laws.deliveries_count.Goals as goal

pub returns : goal.returns
returns g c net start end history is_net woven = woven_count g.A.AllNodes.kind net is_net start end history woven
