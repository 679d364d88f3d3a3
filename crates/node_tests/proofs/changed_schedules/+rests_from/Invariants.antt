use Rattle.std.proofs.Common.{length}
use Rattle.node_tests.proofs.changed_schedules.+rests_from.Given as goal

abbrev pub decreases-rests_from : goal.decreases-rests_from
decreases-rests_from g l = length l.later.now
