use Rattle.std.proofs.Common.{◌++◌, length, map}
use Rattle.std.specs.List.{range_with_len}
use Rattle.std.proofs.lemmas.Result.{err_from_is_err_and}
use Rattle.net_graph.specs.Views.{pure_row}
use Rattle.report_text.specs.SummaryTexts.{reaches_text, size_text, summary_end_text, summary_text}
use Rattle.metacli.proofs.Written.{cut_within, lines_begin, lines_more, put_last}
use Rattle.metacli.proofs.summing.put_summary.Goals as goal

pub returns-in_err-put_line : goal.returns-in_err-put_line
returns-in_err-put_line g c =
    let net = c.args.net.now in
    let rows = map pure_row c.args.rows.now in
    let text = summary_text net rows in
    let rest = reaches_text net rows (range_with_len 0 (length net.dests)) ++ summary_end_text in
    let p = err_from_is_err_and c.from_residual.result c.from_residual.ensures.1 in
    rw (p.1, p.2) (cut_within _ _ _ text (size_text net) rest _ (lines_begin (g.K.Sink.holds c.args.out.now) text) (c.in_err-put_line.ensures (size_text net) c.size_line.ensures))

pub returns-in_err-put_reaches : goal.returns-in_err-put_reaches
returns-in_err-put_reaches g c =
    let net = c.args.net.now in
    let rows = map pure_row c.args.rows.now in
    let text = summary_text net rows in
    let reaches = reaches_text net rows (range_with_len 0 (length net.dests)) in
    let end = summary_end_text in
    let p = err_from_is_err_and c.from_residual-in_err-put_reaches.result c.from_residual-in_err-put_reaches.ensures.1 in
    let begun = lines_more _ _ _ text (size_text net) (reaches ++ end) (lines_begin (g.K.Sink.holds c.args.out.now) text) (c.in_ok-put_line.ensures (size_text net) c.size_line.ensures) in
    rw (p.1, p.2) (cut_within _ _ _ text reaches end _ begun c.in_err-put_reaches.ensures)

pub returns : goal.returns
returns g c =
    let net = c.args.net.now in
    let rows = map pure_row c.args.rows.now in
    let text = summary_text net rows in
    let reaches = reaches_text net rows (range_with_len 0 (length net.dests)) in
    let end = summary_end_text in
    let begun = lines_more _ _ _ text (size_text net) (reaches ++ end) (lines_begin (g.K.Sink.holds c.args.out.now) text) (c.in_ok-put_line.ensures (size_text net) c.size_line.ensures) in
    let reported = lines_more _ _ _ text reaches end begun c.in_ok-put_reaches.ensures in
    put_last _ _ _ text end c.put_line-2.result reported (c.put_line-2.ensures end c.summary_end_line.ensures)
