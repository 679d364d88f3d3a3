use Rattle.woven_laws.proofs.Replays.{replay_woven}
use Rattle.woven_laws.proofs.laws.histories_replay.Goals as goal

pub returns : goal.returns
returns g c net start end history journal woven merge ordered = replay_woven g.N.NodeCore.kind net g.met.N.NodeCore.lawful journal start end history woven merge ordered
