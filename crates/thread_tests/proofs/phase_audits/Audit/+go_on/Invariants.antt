use Rattle.std.proofs.Common.{length}
use Rattle.thread_tests.proofs.phase_audits.Audit.+go_on.Given as goal

abbrev pub decreases-go_on : goal.decreases-go_on
decreases-go_on g l = length l.later.now
