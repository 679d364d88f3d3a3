-- The rows that a command found.
use Rattle.std.specs.Prelude.{List, map}
use Rattle.net_graph.specs.Tables.{PureRow}
use Rattle.net_graph.specs.Views.{pure_row}
use Rattle.word_tables.specs.Rows.{pure_word_rows}
use Rattle.metacli.specs.declared.rows.Rows.{Rows}
use Rattle.metacli.specs.declared.rows.Rows.TheVariants.{Listed, Words}

-- however they are kept
abbrev pub pure_rows : Rows → List PureRow
pure_rows (Listed rows) = map pure_row rows
pure_rows (Words rows) = pure_word_rows rows
