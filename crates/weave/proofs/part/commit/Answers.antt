use Rattle.std.proofs.Common.{refl, arith}
use Rattle.weave.proofs.Hearing.{same_view}
use Rattle.weave.proofs.Working.{worked_same}
use Rattle.weave.proofs.part.commit.Goals as goal

pub returns-clause-worked : goal.returns-clause-worked
returns-clause-worked g c =
    let k = g.N.NodeCore in
    let part = c.args.part.now in
    let sent = c.commit.ensures.sent in
    let taken = c.commit.ensures.taken in
    worked_same k.state k.note k.kind c.args.net.now part _ (same_view k.state k.note k.kind c.args.net.now part.block.seats.items part.block.lanes.items) (omega (arith, sent)) (omega (arith, taken)) refl
