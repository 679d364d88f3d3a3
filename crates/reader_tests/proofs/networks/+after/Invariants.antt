use Rattle.std.proofs.Common.{length}
use Rattle.reader_tests.proofs.networks.+after.Given as goal

abbrev pub decreases-after : goal.decreases-after
decreases-after l = length l.changes.now
