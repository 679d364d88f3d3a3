use Rattle.report_check.proofs.Runs.{one_meaning}
use Rattle.report_check.proofs.laws.one_report_one_meaning.Goals as goal

pub returns : goal.returns
returns c = one_meaning c.values_are_reported.ensures
