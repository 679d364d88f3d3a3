use Rattle.std.proofs.Common.{Err, ◌∙◌, map, subst}
use Rattle.std.proofs.lemmas.List.{at_drop_all}
use Rattle.std.proofs.lemmas.Result.{err_from_is_err_and}
use Rattle.alg_model.specs.Views.{pure_carrier}
use Rattle.net_graph.specs.RowTexts.{IsRowOf}
use Rattle.net_graph.specs.Tables.{joined_rows}
use Rattle.word_tables.specs.Tables.{word_rows}
use Rattle.metacli.specs.Texts.{PutsText, rows_text}
use Rattle.metacli.proofs.Lent.{table_at, table_lines_at}
use Rattle.metacli.proofs.Written.{cut_within, lines_begin, lines_end, lines_more}
use Rattle.metacli.proofs.lending.put_word_rows.Goals as goal

pub returns-in_err-lines : goal.returns-in_err-lines
returns-in_err-lines g c =
    let p = err_from_is_err_and c.from_residual.result c.from_residual.ensures.1 in
    rw (p.1, p.2) (_, lines_begin _ _)

pub put_table-requires-clause-rows : goal.put_table-requires-clause-rows
put_table-requires-clause-rows g c =
    rw c.loop-table.invariant.1
    (table_at (IsRowOf c.args.net.now) (word_rows (pure_carrier c.args.rows.now.carrier)) c.args.rows.now.tables c.loop-table.table-index c.table-item.result (rw c.as_slice-table-items.ensures at c.loop-table-test.true) (rw c.as_slice-table-items.ensures at c.table-item.is) c.requires.rows)

pub returns-in_err-put_table : goal.returns-in_err-put_table
returns-in_err-put_table g c =
    let net = c.args.net.now in
    let rows_of = word_rows (pure_carrier c.args.rows.now.carrier) in
    let lines = table_lines_at rows_of net c.args.rows.now.tables c.loop-table.table-index c.table-item.result (rw c.as_slice-table-items.ensures at c.loop-table-test.true) (rw c.as_slice-table-items.ensures at c.table-item.is) in
    let p = err_from_is_err_and c.from_residual-in_err-put_table.result c.from_residual-in_err-put_table.ensures.1 in
    let holds = g.K.Sink.holds in
    let cut = subst (λ n. PutsText (holds c.loop-table.out) (rows_text n (rows_of c.table-item.result)) (Err c.in_err-put_table.field-0.0) (holds c.put_table.new.out)) c.loop-table.invariant.1 c.in_err-put_table.ensures.text in
    rw (p.1, p.2) (cut_within _ _ _ _ (rows_text net (rows_of c.table-item.result)) _ _ (rw lines at c.loop-table.invariant.0) cut)

pub loop-table-preserved : goal.loop-table-preserved
loop-table-preserved g c =
    let net = c.args.net.now in
    let rows_of = word_rows (pure_carrier c.args.rows.now.carrier) in
    let lines = table_lines_at rows_of net c.args.rows.now.tables c.loop-table.table-index c.table-item.result (rw c.as_slice-table-items.ensures at c.loop-table-test.true) (rw c.as_slice-table-items.ensures at c.table-item.is) in
    (lines_more _ _ _ _ (rows_text net (rows_of c.table-item.result)) _ (rw lines at c.loop-table.invariant.0) (rw c.loop-table.invariant.1 at c.in_ok-put_table.ensures.text), c.put_table.ensures.net ∙ c.loop-table.invariant.1)

pub loop-table-init : goal.loop-table-init
loop-table-init g c = (lines_begin _ _, c.in_ok-lines.ensures)

pub returns : goal.returns
returns g c =
    let rows_of = word_rows (pure_carrier c.args.rows.now.carrier) in
    let past = rw c.as_slice-table-items.ensures at c.loop-table-test.false in
    let none = at_drop_all (λ tables. rows_text c.args.net.now (joined_rows (map rows_of tables))) c.args.rows.now.tables c.loop-table.table-index past in
    lines_end _ _ _ (rw none at c.loop-table.invariant.0)
