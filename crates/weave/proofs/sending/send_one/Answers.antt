use Rattle.std.proofs.lemmas.Option.{slice_get_read}
use Rattle.weave.proofs.Places.{put_at, put_past}
use Rattle.weave.proofs.sending.send_one.Goals as goal

pub returns-in_ok-send_on : goal.returns-in_ok-send_on
returns-in_ok-send_on g c =
    let lanes = c.args.lanes.now in
    put_at lanes.items c.args.arc.0 c.index_mut.result.now c.send_on.new.lane c.args.message
    (slice_get_read lanes.items lanes.len c.args.arc.0 c.index_mut.result.now lanes.ok.0 (rw (← c.len.ensures) c.if-at-len.true) c.index_mut.ensures.value)
    c.in_ok-send_on.ensures

pub returns-else-at-len : goal.returns-else-at-len
returns-else-at-len g c =
    let lanes = c.args.lanes.now in
    put_past lanes.items c.args.arc.0 c.args.message (rw (← lanes.ok.0, ← c.len.ensures) c.if-at-len.false)
