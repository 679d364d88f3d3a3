use Rattle.std.proofs.Common.{length}
use Rattle.report_text.proofs.code.+push_ranks.Given as goal

abbrev pub decreases-push_ranks : goal.decreases-push_ranks
decreases-push_ranks l = length l.ranks.now
