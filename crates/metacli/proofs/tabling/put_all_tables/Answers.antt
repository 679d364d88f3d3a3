use Rattle.std.proofs.Common.{◌≡◌, ◌-◌, ◌<◌, length, arith}
use Rattle.std.proofs.lemmas.Result.{err_from_is_err_and}
use Rattle.alg_model.specs.Views.{pure_carrier}
use Rattle.net_graph.specs.RowTexts.{IsRowOf}
use Rattle.word_tables.specs.Tables.{word_rows}
use Rattle.metacli.specs.Texts.{one_table_text}
use Rattle.metacli.proofs.Lent.{stable_at, stable_end, table_at}
use Rattle.metacli.proofs.Written.{cut_within, lines_begin, lines_end, lines_more}
use Rattle.metacli.proofs.tabling.put_all_tables.Goals as goal

pub returns-in_err-lines : goal.returns-in_err-lines
returns-in_err-lines g c =
    let p = err_from_is_err_and c.from_residual.result c.from_residual.ensures.1 in
    rw (p.1, p.2) (_, lines_begin _ _)

pub put_stable-requires-clause-rows : goal.put_stable-requires-clause-rows
put_stable-requires-clause-rows g c =
    let within : c.loop-dest.dest < length c.args.rows.now.tables = omega (arith, c.loop-dest-test.true, c.dest_count-dest-end.ensures.count, c.requires.words.count) in
    table_at (IsRowOf c.args.net.now) (word_rows (pure_carrier c.args.rows.now.carrier)) c.args.rows.now.tables c.loop-dest.dest c.index-tables-dest.result within (rw c.as_slice-tables.ensures at c.index-tables-dest.is) c.requires.rows

pub returns-in_err-put_stable : goal.returns-in_err-put_stable
returns-in_err-put_stable g c =
    let net = c.args.net.now in
    let rows_of = word_rows (pure_carrier c.args.rows.now.carrier) in
    let within : c.loop-dest.dest < length c.args.rows.now.tables = omega (arith, c.loop-dest-test.true, c.dest_count-dest-end.ensures.count, c.requires.words.count) in
    let lines = stable_at rows_of net c.args.rows.now.tables c.loop-dest.dest c.index-tables-dest.result within (rw c.as_slice-tables.ensures at c.index-tables-dest.is) c.requires.words.count c.requires.words.nodes in
    let p = err_from_is_err_and c.from_residual-in_err-put_stable.result c.from_residual-in_err-put_stable.ensures.1 in
    rw (p.1, p.2) (cut_within _ _ _ _ (one_table_text net c.loop-dest.dest (rows_of c.index-tables-dest.result)) _ _ (rw lines at c.loop-dest.invariant.0) c.in_err-put_stable.ensures.text)

pub loop-dest-preserved : goal.loop-dest-preserved
loop-dest-preserved g c =
    let net = c.args.net.now in
    let rows_of = word_rows (pure_carrier c.args.rows.now.carrier) in
    let within : c.loop-dest.dest < length c.args.rows.now.tables = omega (arith, c.loop-dest-test.true, c.dest_count-dest-end.ensures.count, c.requires.words.count) in
    let lines = stable_at rows_of net c.args.rows.now.tables c.loop-dest.dest c.index-tables-dest.result within (rw c.as_slice-tables.ensures at c.index-tables-dest.is) c.requires.words.count c.requires.words.nodes in
    (lines_more _ _ _ _ (one_table_text net c.loop-dest.dest (rows_of c.index-tables-dest.result)) _ (rw lines at c.loop-dest.invariant.0) c.in_ok-put_stable.ensures.text, c.put_stable.ensures.net)

pub returns : goal.returns
returns g c =
    let net = c.args.net.now in
    let rows_of = word_rows (pure_carrier c.args.rows.now.carrier) in
    let none = stable_end rows_of net c.args.rows.now.tables c.loop-dest.dest (omega (arith, c.loop-dest-test.false, c.dest_count-dest-end.ensures.count)) in
    lines_end _ _ _ (rw none at c.loop-dest.invariant.0)

pub loop-dest-init : goal.loop-dest-init
loop-dest-init g c =
    let whole : length c.args.net.now.dests - 0 ≡ length c.args.net.now.dests = omega arith in
    (rw whole (lines_begin _ _), c.in_ok-lines.ensures)
