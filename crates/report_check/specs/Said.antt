-- What a line of the program says, and how what it says of a value is spelled.
use Rattle.std.specs.Prelude.{◌≡◌, ℕ, ◌≤◌, Result, Err, length, map}
use Rattle.net_graph.specs.Limits.{max_row_number}
use Rattle.net_graph.specs.Nets.{PureNet}
use Rattle.net_graph.specs.Tables.{AreRowsFrom, OnTablesFrom, TableOf}
use Rattle.net_graph.specs.Views.{pure_row, rows_of}
use Rattle.sig_text.specs.Spelled.{spelled_value_to}
use Rattle.topology_file.specs.Texts.{words_of}
use Rattle.report_check.specs.declared.faults.ReportKind.{ReportKind}
use Rattle.report_check.specs.declared.faults.ReportError.{ReportError}
use Rattle.report_check.specs.declared.faults.ReportError.TheVariants as report
use Rattle.report_check.specs.declared.lines.Said.{Said}
use Rattle.report_check.specs.declared.lines.Said.TheVariants as lines
use Rattle.report_check.specs.declared.draft.Draft.{Draft}
use Rattle.report_check.specs.declared.draft.LineError.{LineError}
use Rattle.report_check.specs.declared.draft.LineError.TheVariants.{Bad, NoMemory}
use Rattle.report_check.specs.ReportText.{PureProgress, PureSaid, silent, no_route, route, ending, bad, RowSpelling}
use Rattle.report_check.specs.Views.{AreOfDests}

abbrev pub pure_said : Said → PureSaid
pure_said lines.Silent = silent
pure_said (lines.NoRoute node dest) = no_route node.now dest.now
pure_said (lines.Route node dest value path) = route node.now dest.now value.now (words_of path.now)
pure_said lines.Ending = ending
pure_said lines.Bad = bad

-- the text of a path has at most so many bytes
abbrev pub PathWithin : ℕ → Said → Type 0
PathWithin n (lines.Route node dest value path) = length path.now ≤ n
PathWithin n _ = Unit {0}

-- what texts spell as values of rows over the network
abbrev pub row_spelled : PureNet → RowSpelling
row_spelled net text = spelled_value_to max_row_number net.alg.expression text

-- the error's cause, where this is what the line makes
abbrev pub IsRefusedAs : {A : Type 0} → Result A ReportKind → LineError → Type 0
IsRefusedAs after (Bad kind) = after ≡ Err kind
IsRefusedAs after NoMemory = Unit {0}

-- the error of a text of which that is the first bad line
abbrev pub error_at : ℕ → LineError → ReportError
error_at line (Bad kind) = report.Bad (record { line = line; kind = kind })
error_at line NoMemory = report.NoMemory

-- what the lines so far gave
abbrev pub progress_of : Draft → PureProgress
progress_of d = record { tables = map rows_of d.tables.items; rows = map pure_row d.rows.items; is_over = d.is_over }

-- the tables are those of the first destinations, and the rows those of the first nodes for the next one
pub record IsDraft (net : PureNet) (d : Draft) : Type 0 where
  pub tables : OnTablesFrom (TableOf net) 0 (map rows_of d.tables.items)
  pub dests : AreOfDests 0 d.tables.items
  pub rows : AreRowsFrom net (length d.tables.items) 0 (map pure_row d.rows.items)
