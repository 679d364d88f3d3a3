use Rattle.std.proofs.Common.{◌+◌, ◌≤◌, refl, arith}
use Rattle.quiet_ledger.specs.declared.book.TheConstants.{MAX_SHARE}
use Rattle.weave.specs.Blocks.{view_of, sent_in}
use Rattle.weave.proofs.Hearing.{same_view}
use Rattle.weave.proofs.Working.{worked_same, worked_taken, ready_still, takes_few, counted_room}
use Rattle.weave.proofs.part.turn.Goals as goal

pub returns-then-part-eq0-clause-worked : goal.returns-then-part-eq0-clause-worked
returns-then-part-eq0-clause-worked g c =
    let k = g.N.NodeCore in
    let part = c.args.part.now in
    worked_same k.state k.note k.kind c.args.net.now part part (same_view k.state k.note k.kind c.args.net.now part.block.seats.items part.block.lanes.items) refl refl refl

pub returns-in_default-clause-worked : goal.returns-in_default-clause-worked
returns-in_default-clause-worked g c =
    let k = g.N.NodeCore in
    let part = c.args.part.now in
    worked_same k.state k.note k.kind c.args.net.now part _ (rw c.in_default.is at c.in_ok-sent.ensures.none) refl refl refl

pub returns-in_default-clause-ready : goal.returns-in_default-clause-ready
returns-in_default-clause-ready g c =
    let k = g.N.NodeCore in
    let part = c.args.part.now in
    ready_still k.state k.note k.kind c.args.net.now g.met.N.NodeCore.lawful part _ c.requires.ready
    (worked_same k.state k.note k.kind c.args.net.now part _ (rw c.in_default.is at c.in_ok-sent.ensures.none) refl refl refl)

pub overflow_add-part-2 : goal.overflow_add-part-2
overflow_add-part-2 g c =
    let k = g.N.NodeCore in
    let part = c.args.part.now in
    let takes = rw c.in-Some.is at c.in_ok-sent.ensures.some in
    let few = takes_few k.state k.note k.kind c.args.net.now g.met.N.NodeCore.lawful c.requires.net (view_of k.state k.note part.block) (view_of k.state k.note c.step.new.block) c.in-Some.sent c.requires.ready.seated takes in
    let turns = c.if-part-eq0.false in
    let room : sent_in part + c.in-Some.sent ≤ MAX_SHARE = counted_room k.state k.note k.kind c.args.net.now (sent_in part) part.turns c.in-Some.sent c.requires.ready.sent_room (omega (arith, turns)) few in
    omega (arith, room)

pub returns-clause-worked : goal.returns-clause-worked
returns-clause-worked g c =
    let k = g.N.NodeCore in
    let part = c.args.part.now in
    let turns = c.if-part-eq0.false in
    worked_taken k.state k.note k.kind c.args.net.now g.met.N.NodeCore.lawful c.requires.net part _ c.in-Some.sent c.requires.ready.seated (rw c.in-Some.is at c.in_ok-sent.ensures.some) (omega arith) (omega arith) (omega (arith, turns))

pub returns-clause-ready : goal.returns-clause-ready
returns-clause-ready g c = ready_still g.N.NodeCore.state g.N.NodeCore.note g.N.NodeCore.kind c.args.net.now g.met.N.NodeCore.lawful c.args.part.now _ c.requires.ready (returns-clause-worked g c)
