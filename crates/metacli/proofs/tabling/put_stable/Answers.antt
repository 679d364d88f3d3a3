use Rattle.std.proofs.lemmas.Result.{err_from_is_err_and}
use Rattle.alg_model.specs.Views.{pure_carrier}
use Rattle.word_tables.specs.Tables.{word_rows}
use Rattle.report_text.specs.TableTexts.{stable_text, table_text}
use Rattle.metacli.specs.Texts.{rows_text}
use Rattle.metacli.proofs.Written.{cut_within, lines_begin, lines_more, put_last}
use Rattle.metacli.proofs.tabling.put_stable.Goals as goal

pub returns-in_err-put_line-clause-text : goal.returns-in_err-put_line-clause-text
returns-in_err-put_line-clause-text g c =
    let net = c.args.net.now in
    let p = err_from_is_err_and c.from_residual.result c.from_residual.ensures.1 in
    rw (p.1, p.2) (cut_within _ _ _ _ (stable_text net c.args.dest.0 1) _ _ (lines_begin (g.K.Sink.holds c.args.out.now) _) (c.in_err-put_line.ensures _ c.stable_line.ensures))

pub returns-in_err-put_line-2-clause-text : goal.returns-in_err-put_line-2-clause-text
returns-in_err-put_line-2-clause-text g c =
    let net = c.args.net.now in
    let p = err_from_is_err_and c.from_residual-in_err-put_line-2.result c.from_residual-in_err-put_line-2.ensures.1 in
    let begun = lines_more _ _ _ _ (stable_text net c.args.dest.0 1) _ (lines_begin (g.K.Sink.holds c.args.out.now) _) (c.in_ok-put_line.ensures _ c.stable_line.ensures) in
    rw (p.1, p.2) (cut_within _ _ _ _ (table_text 1) _ _ begun (c.in_err-put_line-2.ensures _ c.table_line.ensures))

pub returns-clause-text : goal.returns-clause-text
returns-clause-text g c =
    let net = c.args.net.now in
    let begun = lines_more _ _ _ _ (stable_text net c.args.dest.0 1) _ (lines_begin (g.K.Sink.holds c.args.out.now) _) (c.in_ok-put_line.ensures _ c.stable_line.ensures) in
    let numbered = lines_more _ _ _ _ (table_text 1) _ begun (c.in_ok-put_line-2.ensures _ c.table_line.ensures) in
    put_last _ _ _ _ (rows_text net (word_rows (pure_carrier c.args.carrier.now) c.args.table.now)) c.put_table.result numbered (rw c.requires.net at c.put_table.ensures.text)
