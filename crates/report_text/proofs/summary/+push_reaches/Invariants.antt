use Rattle.std.proofs.Common.{length, ◌-◌}
use Rattle.report_text.proofs.summary.+push_reaches.Given as goal

abbrev pub decreases-push_reaches : goal.decreases-push_reaches
decreases-push_reaches l = length l.net.now.dests - l.from
