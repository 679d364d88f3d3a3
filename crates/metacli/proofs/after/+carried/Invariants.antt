use Rattle.std.proofs.Common.{length}
use Rattle.metacli.proofs.after.+carried.Given as goal

abbrev pub decreases-carried : goal.decreases-carried
decreases-carried l = length l.changes.now
