use Rattle.std.proofs.Common.{Err, length, map, subst}
use Rattle.std.proofs.lemmas.Result.{err_from_is_err_and}
use Rattle.net_graph.specs.Views.{pure_row}
use Rattle.report_text.specs.RunTexts.{end_text}
use Rattle.metacli.specs.Texts.{PutsText, flood_text, rows_text}
use Rattle.metacli.proofs.Written.{cut_within, lines_begin, lines_more, put_last}
use Rattle.metacli.proofs.phases.put_flood.Goals as goal

pub returns-in_err-put_rows : goal.returns-in_err-put_rows
returns-in_err-put_rows g c =
    let net = c.args.net.now in
    let run = c.args.run.now in
    let rows = map pure_row run.rows in
    let text = flood_text net rows run.journal run.is_quiet in
    let end = end_text run.is_quiet (length run.journal) in
    let holds = g.K.Sink.holds in
    let p = err_from_is_err_and c.from_residual.result c.from_residual.ensures.1 in
    let cut = subst (λ rows. PutsText (holds c.args.out.now) (rows_text net (map pure_row rows)) (Err c.in_err-put_rows.field-0.0) (holds c.put_rows.new.out)) c.as_slice.ensures c.in_err-put_rows.ensures in
    rw (p.1, p.2) (cut_within _ _ _ text (rows_text net rows) end _ (lines_begin (holds c.args.out.now) text) cut)

pub returns : goal.returns
returns g c =
    let net = c.args.net.now in
    let run = c.args.run.now in
    let rows = map pure_row run.rows in
    let text = flood_text net rows run.journal run.is_quiet in
    let end = end_text run.is_quiet (length run.journal) in
    let holds = g.K.Sink.holds in
    let put = lines_more _ _ _ text (rows_text net rows) end (lines_begin (holds c.args.out.now) text) (rw c.as_slice.ensures at c.in_ok-put_rows.ensures) in
    put_last _ _ _ text end c.put_line.result put (c.put_line.ensures end (rw c.len-made.ensures at c.end_line.ensures))
