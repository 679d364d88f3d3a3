use Rattle.std.proofs.Common.{◌∙◌, ap, arith}
use Rattle.std.proofs.lemmas.List.{at_drop_all}
use Rattle.std.proofs.lemmas.Result.{err_from_is_err_and}
use Rattle.alg_model.specs.Views.{pure_carrier}
use Rattle.net_graph.specs.RowTexts.{IsRowOf, row_text}
use Rattle.row_lines.specs.RowLines.{net_of}
use Rattle.word_tables.specs.Routes.{lent_row}
use Rattle.word_tables.specs.Found.{found_rows}
use Rattle.metacli.specs.Texts.{rows_text}
use Rattle.metacli.proofs.Lent.{word_line_at, word_row_at}
use Rattle.metacli.proofs.Written.{lines_cut, lines_end, lines_more}
use Rattle.metacli.proofs.lending.put_found.Goals as goal

pub row-requires : goal.row-requires
row-requires g c =
    let d = pure_carrier c.args.carrier.now in
    let many = c.node_count-node-end.ensures d in
    let below = c.loop-node-test.true in
    record { node = (d, omega arith) }

pub write_lent-requires-clause-row : goal.write_lent-requires-clause-row
write_lent-requires-clause-row g c =
    let held = g.W.HeldRow.held in
    let d = pure_carrier c.args.carrier.now in
    rw c.loop-node.invariant.1 (word_row_at (IsRowOf (net_of c.args.lines.now)) (found_rows held d c.args.found.now) c.loop-node.node (lent_row d c.row.result) (c.row.ensures.row d) c.requires.rows)

pub write_lent-requires-clause-words : goal.write_lent-requires-clause-words
write_lent-requires-clause-words g c = c.row.ensures.words (pure_carrier c.args.carrier.now) c.requires.words

pub returns-in_err-put_all-clause-text : goal.returns-in_err-put_all-clause-text
returns-in_err-put_all-clause-text g c =
    let held = g.W.HeldRow.held in
    let d = pure_carrier c.args.carrier.now in
    let net = net_of c.args.lines.now in
    let lines = word_line_at net (found_rows held d c.args.found.now) c.loop-node.node (lent_row d c.row.result) (c.row.ensures.row d) in
    let line = c.line.ensures ∙ c.in_ok-write_lent.ensures.line ∙ ap (λ n. row_text n (lent_row d c.row.result)) c.loop-node.invariant.1 in
    let p = err_from_is_err_and c.from_residual-in_err-put_all.result c.from_residual-in_err-put_all.ensures.1 in
    rw (p.1, p.2) (lines_cut _ _ _ _ _ _ (rw lines at c.loop-node.invariant.0) (rw line at c.in_err-put_all.ensures))

pub loop-node-preserved : goal.loop-node-preserved
loop-node-preserved g c =
    let held = g.W.HeldRow.held in
    let d = pure_carrier c.args.carrier.now in
    let net = net_of c.args.lines.now in
    let lines = word_line_at net (found_rows held d c.args.found.now) c.loop-node.node (lent_row d c.row.result) (c.row.ensures.row d) in
    let line = c.line.ensures ∙ c.in_ok-write_lent.ensures.line ∙ ap (λ n. row_text n (lent_row d c.row.result)) c.loop-node.invariant.1 in
    (lines_more _ _ _ _ _ _ (rw lines at c.loop-node.invariant.0) (rw line at c.in_ok-put_all.ensures), c.write_lent.ensures.net ∙ c.loop-node.invariant.1)

pub returns-clause-text : goal.returns-clause-text
returns-clause-text g c =
    let held = g.W.HeldRow.held in
    let d = pure_carrier c.args.carrier.now in
    let rows = found_rows held d c.args.found.now in
    let many = c.node_count-node-end.ensures d in
    let past = c.loop-node-test.false in
    let none = at_drop_all (rows_text (net_of c.args.lines.now)) rows c.loop-node.node (omega arith) in
    lines_end _ _ _ (rw none at c.loop-node.invariant.0)
