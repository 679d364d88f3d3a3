use Rattle.std.proofs.Common.{length}
use Rattle.profile_labels.proofs.covering.+make_labels.Given as goal

abbrev pub decreases-make_labels : goal.decreases-make_labels
decreases-make_labels l = length l.outlines.now
