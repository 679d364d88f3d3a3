use Rattle.report_check.proofs.PrintedRows.{read_back}
use Rattle.report_check.proofs.laws.printed_rows_are_read_back.Goals as goal

pub returns : goal.returns
returns c = read_back c.values_are_reported.ensures c.printed_values_are_read_back_to.ensures
