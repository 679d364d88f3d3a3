use Rattle.best_first.proofs.Rows.{best_first_rows}
use Rattle.best_first.proofs.laws.best_first_rows_are_the_networks.Goals as goal

pub returns : goal.returns
returns c = best_first_rows
