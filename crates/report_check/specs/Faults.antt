-- The numbers of faults, and which error is answered for a report.
use Rattle.std.specs.Prelude.{ℕ, List}
use Rattle.net_graph.specs.Nets.{PureNet}
use Rattle.report_check.specs.declared.faults.ReportKind.{ReportKind}
use Rattle.report_check.specs.declared.faults.ReportKind.TheVariants.{BadLine, UnknownName, WrongRow, BadValue, RowsMissing}
use Rattle.report_check.specs.declared.faults.ReportError.{ReportError}
use Rattle.report_check.specs.declared.faults.ReportError.TheVariants.{Bad, NoMemory}
use Rattle.report_check.specs.ReportText.{IsReportFault}

-- the number that stands after the V of a printed fault
abbrev pub report_kind_number : ReportKind → ℕ
report_kind_number BadLine = 1
report_kind_number UnknownName = 2
report_kind_number WrongRow = 3
report_kind_number (BadValue fault) = 4
report_kind_number RowsMissing = 5

-- the error's cause
abbrev pub IsReportRefusedBy : PureNet → List ℕ → ReportError → Type 0
IsReportRefusedBy net text (Bad fault) = IsReportFault net text fault
IsReportRefusedBy net text NoMemory = Unit {0}
