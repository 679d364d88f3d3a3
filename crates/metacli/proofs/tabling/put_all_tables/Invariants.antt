use Rattle.std.proofs.Common.{◌≡◌, ◌-◌, drop, length, map}
use Rattle.std.specs.List.{range_with_len}
use Rattle.alg_model.specs.Views.{pure_carrier}
use Rattle.net_graph.specs.Tables.{joined_rows}
use Rattle.row_lines.specs.RowLines.{net_of}
use Rattle.word_tables.specs.Rows.{pure_word_rows}
use Rattle.word_tables.specs.Tables.{word_rows}
use Rattle.metacli.specs.Texts.{HasLines, tables_text}
use Rattle.metacli.proofs.tabling.put_all_tables.Given as goal

-- the tables so far were appended, and the lines to come are of the same network
abbrev pub invariant-loop-dest : goal.invariant-loop-dest
invariant-loop-dest g l =
    let dests = length l.net.dests in
    HasLines (g.K.Sink.holds l.fn.out) (tables_text l.net (range_with_len 0 dests) (pure_word_rows l.rows))
    (tables_text l.net (range_with_len l.dest (dests - l.dest)) (joined_rows (map (word_rows (pure_carrier l.rows.carrier)) (drop l.dest l.rows.tables)))) (g.K.Sink.holds l.out)
    × (net_of l.lines ≡ l.net)
