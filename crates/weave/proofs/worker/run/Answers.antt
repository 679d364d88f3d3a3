use Rattle.std.proofs.Common.{refl, ◌∙◌}
use Rattle.weave.proofs.Hearing.{same_view}
use Rattle.weave.proofs.Working.{worked_same, worked_then}
use Rattle.weave.proofs.worker.run.Goals as goal

pub loop-is_fruitful-init : goal.loop-is_fruitful-init
loop-is_fruitful-init g c =
    let k = g.N.NodeCore in
    let part = c.args.part.now in
    record {
      worked = worked_same k.state k.note k.kind c.args.net.now part part (same_view k.state k.note k.kind c.args.net.now part.block.seats.items part.block.lanes.items) refl refl refl;
      ready = c.requires.ready;
      refused = refl;
    }

pub loop-is_fruitful-preserved : goal.loop-is_fruitful-preserved
loop-is_fruitful-preserved g c =
    let k = g.N.NodeCore in
    record {
      worked = worked_then k.state k.note k.kind c.args.net.now c.args.part.now c.loop-is_fruitful.part c.stretch.new.part c.loop-is_fruitful.invariant.worked c.in_ok-is_fruitful.ensures.worked;
      ready = c.in_ok-is_fruitful.ensures.ready;
      refused = c.stretch.ensures.refused ∙ c.loop-is_fruitful.invariant.refused;
    }

pub returns-then-ends-clause-worked : goal.returns-then-ends-clause-worked
returns-then-ends-clause-worked g c =
    let k = g.N.NodeCore in
    worked_then k.state k.note k.kind c.args.net.now c.args.part.now c.loop-is_fruitful.part c.stretch.new.part c.loop-is_fruitful.invariant.worked c.in_ok-is_fruitful.ensures.worked
