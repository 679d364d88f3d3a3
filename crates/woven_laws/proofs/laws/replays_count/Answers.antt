use Rattle.woven_laws.proofs.Counting.{journal_count}
use Rattle.woven_laws.proofs.laws.replays_count.Goals as goal

pub returns : goal.returns
returns g c net nodes journal machine is_net unbegun e = journal_count g.N.NodeCore.kind net is_net g.met.N.NodeCore.lawful nodes journal machine unbegun e
