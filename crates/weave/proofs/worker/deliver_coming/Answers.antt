use Rattle.std.proofs.Common.{refl, ◌∙◌}
use Rattle.weave.proofs.Hearing.{same_view}
use Rattle.weave.proofs.Working.{worked_same, worked_then}
use Rattle.weave.proofs.worker.deliver_coming.Goals as goal

pub loop-place-init : goal.loop-place-init
loop-place-init g c =
    let k = g.N.NodeCore in
    let part = c.args.part.now in
    record {
      worked = worked_same k.state k.note k.kind c.args.net.now part _ (same_view k.state k.note k.kind c.args.net.now part.block.seats.items part.block.lanes.items) refl refl refl;
      ready = c.requires.ready;
      refused = refl;
    }

pub loop-place-preserved : goal.loop-place-preserved
loop-place-preserved g c =
    let k = g.N.NodeCore in
    record {
      worked = worked_then k.state k.note k.kind c.args.net.now c.args.part.now c.loop-place.part c.turn.new.part c.loop-place.invariant.worked c.in_ok-turn.ensures.worked;
      ready = c.in_ok-turn.ensures.ready;
      refused = c.turn.ensures.refused ∙ c.loop-place.invariant.refused;
    }
