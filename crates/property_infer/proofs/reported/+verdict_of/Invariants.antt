use Rattle.std.proofs.Common.{length}
use Rattle.property_infer.proofs.reported.+verdict_of.Given as goal

abbrev pub decreases-verdict_of : goal.decreases-verdict_of
decreases-verdict_of l = length l.labels.now
