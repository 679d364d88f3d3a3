use Rattle.std.proofs.Common.{refl}
use Rattle.weave.proofs.Hearing.{same_view}
use Rattle.weave.proofs.Working.{worked_same}
use Rattle.weave.proofs.worker.deliver_ready.Goals as goal

pub returns-in-None-clause-worked : goal.returns-in-None-clause-worked
returns-in-None-clause-worked g c =
    let k = g.N.NodeCore in
    let part = c.args.part.now in
    worked_same k.state k.note k.kind c.args.net.now part _ (same_view k.state k.note k.kind c.args.net.now part.block.seats.items part.block.lanes.items) refl refl refl
