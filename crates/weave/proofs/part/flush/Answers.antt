use Rattle.std.proofs.Common.{refl}
use Rattle.weave.proofs.Hearing.{flushed}
use Rattle.weave.proofs.Working.{worked_same}
use Rattle.weave.proofs.part.flush.Goals as goal

pub returns-clause-worked : goal.returns-clause-worked
returns-clause-worked g c =
    let k = g.N.NodeCore in
    let part = c.args.part.now in
    worked_same k.state k.note k.kind c.args.net.now part _ (flushed k.state k.note k.kind c.args.net.now part.block.seats.items part.block.lanes.items c.flush_all.new.lanes.items c.flush_all.ensures) refl refl refl
