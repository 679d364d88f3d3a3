use Rattle.std.proofs.Common.{◌++◌, Err, length, map, subst}
use Rattle.net_graph.specs.Views.{pure_row}
use Rattle.std.proofs.lemmas.Result.{err_from_is_err_and}
use Rattle.report_text.specs.RunTexts.{end_text}
use Rattle.vector_runs.specs.Runs.{pure_phase}
use Rattle.metacli.specs.Texts.{PutsText, number_text, phase_lines, rows_text, trace_text}
use Rattle.metacli.proofs.Written.{cut_within, lines_begin, lines_more, put_last}
use Rattle.metacli.proofs.phases.put_phase.Goals as goal

pub returns-in_err-put_number : goal.returns-in_err-put_number
returns-in_err-put_number g c =
    let phase = pure_phase c.args.phase.now in
    let net = c.args.net.now in
    let text = phase_lines c.args.is_traced net c.args.number phase c.args.is_quiet in
    let rest = trace_text c.args.is_traced net phase.journal ++ (rows_text net phase.rows ++ end_text c.args.is_quiet (length phase.journal)) in
    let p = err_from_is_err_and c.from_residual.result c.from_residual.ensures.1 in
    rw (p.1, p.2) (cut_within _ _ _ text (number_text c.args.number) rest _ (lines_begin (g.K.Sink.holds c.args.out.now) text) c.in_err-put_number.ensures)

pub returns-in_err-put_trace : goal.returns-in_err-put_trace
returns-in_err-put_trace g c =
    let phase = pure_phase c.args.phase.now in
    let net = c.args.net.now in
    let text = phase_lines c.args.is_traced net c.args.number phase c.args.is_quiet in
    let trace = trace_text c.args.is_traced net phase.journal in
    let rest = rows_text net phase.rows ++ end_text c.args.is_quiet (length phase.journal) in
    let p = err_from_is_err_and c.from_residual-in_err-put_trace.result c.from_residual-in_err-put_trace.ensures.1 in
    let numbered = lines_more _ _ _ text (number_text c.args.number) (trace ++ rest) (lines_begin (g.K.Sink.holds c.args.out.now) text) c.in_ok-put_number.ensures in
    let holds = g.K.Sink.holds in
    rw (p.1, p.2) (cut_within _ _ _ text trace rest _ numbered c.in_err-put_trace.ensures)

pub returns-in_err-put_rows : goal.returns-in_err-put_rows
returns-in_err-put_rows g c =
    let phase = pure_phase c.args.phase.now in
    let net = c.args.net.now in
    let text = phase_lines c.args.is_traced net c.args.number phase c.args.is_quiet in
    let trace = trace_text c.args.is_traced net phase.journal in
    let end = end_text c.args.is_quiet (length phase.journal) in
    let rest = rows_text net phase.rows ++ end in
    let p = err_from_is_err_and c.from_residual-in_err-put_rows.result c.from_residual-in_err-put_rows.ensures.1 in
    let numbered = lines_more _ _ _ text (number_text c.args.number) (trace ++ rest) (lines_begin (g.K.Sink.holds c.args.out.now) text) c.in_ok-put_number.ensures in
    let traced = lines_more _ _ _ text trace rest numbered c.in_ok-put_trace.ensures in
    let holds = g.K.Sink.holds in
    let cut = subst (λ rows. PutsText (holds c.put_trace.new.out) (rows_text net (map pure_row rows)) (Err c.in_err-put_rows.field-0.0) (holds c.put_rows.new.out)) c.as_slice.ensures c.in_err-put_rows.ensures in
    rw (p.1, p.2) (cut_within _ _ _ text (rows_text net phase.rows) end _ traced cut)

pub returns : goal.returns
returns g c =
    let phase = pure_phase c.args.phase.now in
    let net = c.args.net.now in
    let text = phase_lines c.args.is_traced net c.args.number phase c.args.is_quiet in
    let trace = trace_text c.args.is_traced net phase.journal in
    let end = end_text c.args.is_quiet (length phase.journal) in
    let rest = rows_text net phase.rows ++ end in
    let numbered = lines_more _ _ _ text (number_text c.args.number) (trace ++ rest) (lines_begin (g.K.Sink.holds c.args.out.now) text) c.in_ok-put_number.ensures in
    let traced = lines_more _ _ _ text trace rest numbered c.in_ok-put_trace.ensures in
    let reported = lines_more _ _ _ text (rows_text net phase.rows) end traced (rw c.as_slice.ensures at c.in_ok-put_rows.ensures) in
    put_last _ _ _ text end c.put_line.result reported (c.put_line.ensures end (rw c.len.ensures at c.end_line.ensures))
