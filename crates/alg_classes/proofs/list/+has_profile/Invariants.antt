use Rattle.std.proofs.Common.{length}
use Rattle.alg_classes.proofs.list.+has_profile.Given as goal

abbrev pub decreases-has_profile : goal.decreases-has_profile
decreases-has_profile g l = length l.items.now
