use Rattle.std.proofs.Common.{Err, length, map, subst}
use Rattle.std.proofs.lemmas.Result.{err_from_is_err_and}
use Rattle.distance_node.specs.Rows.{pure_hop_row}
use Rattle.report_text.specs.RunTexts.{end_text}
use Rattle.metacli.specs.Texts.{PutsText, exchange_text, hop_rows_text}
use Rattle.metacli.proofs.Written.{cut_within, lines_begin, lines_more, put_last}
use Rattle.metacli.proofs.phases.put_exchange.Goals as goal

pub returns-in_err-put_hop_rows : goal.returns-in_err-put_hop_rows
returns-in_err-put_hop_rows g c =
    let net = c.args.net.now in
    let run = c.args.run.now in
    let hops = map pure_hop_row run.hops in
    let text = exchange_text net hops run.journal run.is_quiet in
    let end = end_text run.is_quiet (length run.journal) in
    let holds = g.K.Sink.holds in
    let p = err_from_is_err_and c.from_residual.result c.from_residual.ensures.1 in
    let cut = subst (λ hops. PutsText (holds c.args.out.now) (hop_rows_text net (map pure_hop_row hops)) (Err c.in_err-put_hop_rows.field-0.0) (holds c.put_hop_rows.new.out)) c.as_slice.ensures c.in_err-put_hop_rows.ensures in
    rw (p.1, p.2) (cut_within _ _ _ text (hop_rows_text net hops) end _ (lines_begin (holds c.args.out.now) text) cut)

pub returns : goal.returns
returns g c =
    let net = c.args.net.now in
    let run = c.args.run.now in
    let hops = map pure_hop_row run.hops in
    let text = exchange_text net hops run.journal run.is_quiet in
    let end = end_text run.is_quiet (length run.journal) in
    let holds = g.K.Sink.holds in
    let put = lines_more _ _ _ text (hop_rows_text net hops) end (lines_begin (holds c.args.out.now) text) (rw c.as_slice.ensures at c.in_ok-put_hop_rows.ensures) in
    put_last _ _ _ text end c.put_line.result put (c.put_line.ensures end (rw c.len-made.ensures at c.end_line.ensures))
