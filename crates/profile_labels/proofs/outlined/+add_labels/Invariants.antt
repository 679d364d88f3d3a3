use Rattle.std.proofs.Common.{length}
use Rattle.profile_labels.proofs.outlined.+add_labels.Given as goal

abbrev pub decreases-add_labels : goal.decreases-add_labels
decreases-add_labels l = length l.classes.now
