use Rattle.weave.proofs.Working.{worked_then}
use Rattle.weave.proofs.worker.stretch.Goals as goal

pub returns-clause-worked : goal.returns-clause-worked
returns-clause-worked g c =
    let k = g.N.NodeCore in
    let net = c.args.net.now in
    let first = c.args.part.now in
    let second = c.deliver_inside.new.part in
    let third = c.deliver_coming.new.part in
    let fourth = c.commit.new.part in
    let last = c.flush.new.part in
    worked_then k.state k.note k.kind net first fourth last
    (worked_then k.state k.note k.kind net first third fourth
    (worked_then k.state k.note k.kind net first second third c.in_ok-deliver_inside.ensures.worked c.in_ok-deliver_coming.ensures.worked)
    c.commit.ensures.worked)
    c.flush.ensures.worked
