use Rattle.std.proofs.Common.{length}
use Rattle.metacli.proofs.phases.+put_phases.Given as goal

abbrev pub decreases-put_phases : goal.decreases-put_phases
decreases-put_phases g l = length l.past.now
