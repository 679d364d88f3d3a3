use Rattle.std.proofs.Common.{length}
use Rattle.profile_labels.proofs.deciding.+add_deciding.Given as goal

abbrev pub decreases-add_deciding : goal.decreases-add_deciding
decreases-add_deciding l = length l.outlines.now
