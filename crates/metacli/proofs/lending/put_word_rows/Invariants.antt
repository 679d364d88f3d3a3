use Rattle.std.proofs.Common.{◌≡◌, drop, map}
use Rattle.alg_model.specs.Views.{pure_carrier}
use Rattle.net_graph.specs.Tables.{joined_rows}
use Rattle.row_lines.specs.RowLines.{net_of}
use Rattle.word_tables.specs.Rows.{pure_word_rows}
use Rattle.word_tables.specs.Tables.{word_rows}
use Rattle.metacli.specs.Texts.{HasLines, rows_text}
use Rattle.metacli.proofs.lending.put_word_rows.Given as goal

-- the lines of the tables so far were appended, and those to come are of the same network
abbrev pub invariant-loop-table : goal.invariant-loop-table
invariant-loop-table g l =
    HasLines (g.K.Sink.holds l.fn.out) (rows_text l.net (pure_word_rows l.rows)) (rows_text l.net (joined_rows (map (word_rows (pure_carrier l.rows.carrier)) (drop l.table-index l.rows.tables)))) (g.K.Sink.holds l.out)
    × (net_of l.lines ≡ l.net)
