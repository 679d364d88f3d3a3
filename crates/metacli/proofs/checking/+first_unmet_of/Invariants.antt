use Rattle.std.proofs.Common.{length}
use Rattle.metacli.proofs.checking.+first_unmet_of.Given as goal

abbrev pub decreases-first_unmet_of : goal.decreases-first_unmet_of
decreases-first_unmet_of l = length l.properties.now
