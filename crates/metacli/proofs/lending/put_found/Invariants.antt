use Rattle.std.proofs.Common.{◌≡◌, drop}
use Rattle.alg_model.specs.Views.{pure_carrier}
use Rattle.row_lines.specs.RowLines.{net_of}
use Rattle.word_tables.specs.Found.{found_rows}
use Rattle.metacli.specs.Texts.{HasLines, rows_text}
use Rattle.metacli.proofs.lending.put_found.Given as goal

-- the lines of the rows so far were appended, and those to come are of the same network
abbrev pub invariant-loop-node : goal.invariant-loop-node
invariant-loop-node g l =
    let net = net_of l.fn.lines in
    let rows = found_rows g.W.HeldRow.held (pure_carrier l.carrier) l.found in
    HasLines (g.K.Sink.holds l.fn.out) (rows_text net rows) (rows_text net (drop l.node rows)) (g.K.Sink.holds l.out) × (net_of l.lines ≡ net)
