use Rattle.std.proofs.lemmas.Result.{err_from_is_err_and}
use Rattle.property_infer.specs.Views.{pure_verdicts}
use Rattle.metacli.proofs.Written.{cut_within, lines_more, verdicts_at}
use Rattle.metacli.proofs.writing.put_verdicts.Goals as goal

pub returns-in_err-put_line : goal.returns-in_err-put_line
returns-in_err-put_line g c =
    let lines = verdicts_at c.args.alg.now.expression (pure_verdicts c.args.verdicts.now) c.args.properties.now c.loop-property.property-index c.loop-property-test.true in
    let p = err_from_is_err_and c.from_residual.result c.from_residual.ensures.1 in
    rw (p.1, p.2) (cut_within _ _ _ _ _ _ _ (rw lines at c.loop-property.invariant) (c.in_err-put_line.ensures _ (rw c.on.ensures at c.verdict_line.ensures)))

pub loop-property-preserved : goal.loop-property-preserved
loop-property-preserved g c =
    let lines = verdicts_at c.args.alg.now.expression (pure_verdicts c.args.verdicts.now) c.args.properties.now c.loop-property.property-index c.loop-property-test.true in
    lines_more _ _ _ _ _ _ (rw lines at c.loop-property.invariant) (c.in_ok-put_line.ensures _ (rw c.on.ensures at c.verdict_line.ensures))
