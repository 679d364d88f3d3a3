use Rattle.std.proofs.Common.{◌≡◌, map, drop}
use Rattle.net_graph.specs.Views.{pure_row}
use Rattle.row_lines.specs.RowLines.{net_of}
use Rattle.metacli.specs.Texts.{HasLines, rows_text}
use Rattle.metacli.proofs.writing.put_rows.Given as goal

-- the lines of the rows so far were appended, and those to come are of the same network
abbrev pub invariant-loop-row : goal.invariant-loop-row
invariant-loop-row g l =
    HasLines (g.K.Sink.holds l.fn.out) (rows_text l.net (map pure_row l.rows)) (rows_text l.net (map pure_row (drop l.row-index l.rows))) (g.K.Sink.holds l.out)
    × (net_of l.lines ≡ l.net)
