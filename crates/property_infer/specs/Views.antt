-- What verdicts of the program stand for.
use Rattle.alg_model.specs.Verdicts.{PureVerdict, holds, fails, PureVerdicts}
use Rattle.alg_classes.specs.Instances.{pure_instance}
use Rattle.property_infer.specs.declared.verdict.Verdict.{Verdict}
use Rattle.property_infer.specs.declared.verdict.Verdict.TheVariants.{Yes, No}
use Rattle.property_infer.specs.declared.verdict.Verdicts.{Verdicts}

abbrev pub pure_verdict : Verdict → PureVerdict
pure_verdict Yes = holds
pure_verdict (No x) = fails (pure_instance x)

abbrev pub pure_verdicts : Verdicts → PureVerdicts
pure_verdicts v = record {
  monotone = pure_verdict v.monotone;
  strict = pure_verdict v.strict;
  isotone = pure_verdict v.isotone;
  cancellative = pure_verdict v.cancellative;
  total = pure_verdict v.total;
}
