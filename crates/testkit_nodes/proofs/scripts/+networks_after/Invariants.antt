use Rattle.std.proofs.Common.{length}
use Rattle.testkit_nodes.proofs.scripts.+networks_after.Given as goal

abbrev pub decreases-networks_after : goal.decreases-networks_after
decreases-networks_after l = length l.changes.now
