use Rattle.std.proofs.Common.{map, drop}
use Rattle.alg_classes.specs.Instances.{pure_property}
use Rattle.property_infer.specs.Views.{pure_verdicts}
use Rattle.report_text.specs.VerdictTexts.{lines_on}
use Rattle.metacli.specs.Texts.{HasLines}
use Rattle.metacli.proofs.writing.put_verdicts.Given as goal

-- the lines of the verdicts so far were appended
abbrev pub invariant-loop-property : goal.invariant-loop-property
invariant-loop-property g l =
    let verdicts = pure_verdicts l.fn.verdicts in
    let a = l.fn.alg.expression in
    HasLines (g.K.Sink.holds l.fn.out) (lines_on a verdicts (map pure_property l.fn.properties)) (lines_on a verdicts (map pure_property (drop l.property-index l.fn.properties))) (g.K.Sink.holds l.out)
