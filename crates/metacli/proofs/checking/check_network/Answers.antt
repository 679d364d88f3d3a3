use Rattle.std.proofs.Common.{subst}
use Rattle.alg_model.specs.Expressions.{PureAlg}
use Rattle.property_infer.specs.Views.{pure_verdicts}
use Rattle.report_text.specs.VerdictTexts.{CanPrintVerdicts}
use Rattle.metacli.proofs.Printable.{printable}
use Rattle.metacli.proofs.checking.check_network.Goals as goal

pub returns-in-Ok-clause-printable : goal.returns-in-Ok-clause-printable
returns-in-Ok-clause-printable c =
    record {
      printable = subst (λ (a : PureAlg). CanPrintVerdicts a.expression (pure_verdicts c.in-Ok.verdicts)) c.requires.over
          (printable c.args.file.net.alg _ (pure_verdicts c.in-Ok.verdicts) c.in-Ok.ensures.exact c.in-Ok.ensures.bound);
      after = tt;
    }
