use Rattle.std.proofs.Common.{length}
use Rattle.row_lines.proofs.row_lines.RowLines.+push_lent_path.Given as goal

abbrev pub decreases-push_lent_path : goal.decreases-push_lent_path
decreases-push_lent_path l = length l.path
