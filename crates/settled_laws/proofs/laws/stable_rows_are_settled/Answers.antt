use Rattle.settled_laws.specs.Rows.{stable_rows_are_settled}
use Rattle.settled_laws.proofs.laws.stable_rows_are_settled.Goals as goal

pub returns : goal.returns
returns c = stable_rows_are_settled
