use Rattle.std.proofs.Common.{◌++◌}
use Rattle.std.specs.Prelude.{option_map}
use Rattle.std.proofs.lemmas.Result.{err_from_is_err_and}
use Rattle.alg_classes.specs.Instances.{pure_property}
use Rattle.property_infer.specs.Views.{pure_verdicts}
use Rattle.report_text.specs.VerdictTexts.{verdicts_text}
use Rattle.metacli.specs.Texts.{unmet_text}
use Rattle.metacli.proofs.Written.{cut_within, lines_begin, lines_more, put_last}
use Rattle.metacli.proofs.writing.put_checked.Goals as goal

pub returns-in_err-put_verdicts : goal.returns-in_err-put_verdicts
returns-in_err-put_verdicts g c =
    let lines = verdicts_text c.args.checked.now.alg.expression (pure_verdicts c.args.checked.now.verdicts) in
    let line = unmet_text (option_map pure_property c.args.checked.now.unmet) in
    let p = err_from_is_err_and c.from_residual.result c.from_residual.ensures.1 in
    rw (p.1, p.2) (cut_within _ _ _ (lines ++ line) lines line _ (lines_begin (g.K.Sink.holds c.args.out.now) (lines ++ line)) c.in_err-put_verdicts.ensures)

pub returns : goal.returns
returns g c =
    let lines = verdicts_text c.args.checked.now.alg.expression (pure_verdicts c.args.checked.now.verdicts) in
    let line = unmet_text (option_map pure_property c.args.checked.now.unmet) in
    let begun = lines_more _ _ _ (lines ++ line) lines line (lines_begin (g.K.Sink.holds c.args.out.now) (lines ++ line)) c.in_ok-put_verdicts.ensures in
    put_last _ _ _ (lines ++ line) line c.put_unmet.result begun c.put_unmet.ensures
