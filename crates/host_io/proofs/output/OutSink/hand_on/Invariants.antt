use Rattle.std.proofs.Common.{◌≡◌, ◌-◌, vec_len}
use Rattle.host_io.proofs.output.OutSink.hand_on.Given as goal

-- what is gathered stays, and no fault comes while the loop goes on
abbrev pub invariant-loop-self : goal.invariant-loop-self
invariant-loop-self g l = (l.self.gathered ≡ l.fn.self.gathered) × (l.self.faults ≡ l.fn.self.faults)

abbrev pub decreases-loop-self : goal.decreases-loop-self
decreases-loop-self g l = vec_len l.self.gathered - l.self.handed
