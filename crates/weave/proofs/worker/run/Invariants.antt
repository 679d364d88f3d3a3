use Rattle.std.proofs.Common.{◌≡◌, ◌+◌, ◌*◌, ◌-◌}
use Rattle.weave.specs.declared.worker.TheConstants.{LOOKS}
use Rattle.weave.specs.Blocks.{HasWorked, IsReady}
use Rattle.weave.proofs.worker.run.Given as goal

-- so far the worker worked
abbrev pub invariant-loop-is_fruitful : goal.invariant-loop-is_fruitful
invariant-loop-is_fruitful g l =
    let k = g.N.NodeCore in
    record {
      worked : HasWorked k.state k.note k.kind l.net l.fn.part l.part;
      ready : IsReady k.state k.note k.kind l.net l.part;
      refused : l.part.refused ≡ l.fn.part.refused;
    }

-- each stretch uses a turn, or is a look more
abbrev pub decreases-loop-is_fruitful : goal.decreases-loop-is_fruitful
decreases-loop-is_fruitful g l = l.part.turns * (LOOKS + 1) + (LOOKS - l.looks)
