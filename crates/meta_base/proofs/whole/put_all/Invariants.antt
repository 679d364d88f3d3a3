use Rattle.std.proofs.Common.{◌-◌, length}
use Rattle.meta_base.specs.Sink.{HasFront}
use Rattle.meta_base.proofs.whole.put_all.Given as goal

-- what was taken is the front of the piece
abbrev pub invariant-loop-done : goal.invariant-loop-done
invariant-loop-done g l = HasFront (g.K.Sink.holds l.fn.out) l.piece l.done (g.K.Sink.holds l.out)

abbrev pub decreases-loop-done : goal.decreases-loop-done
decreases-loop-done g l = length l.piece - l.done
