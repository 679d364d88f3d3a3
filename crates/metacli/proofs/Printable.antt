-- Verdicts that are exact and have small numbers can be printed.
use Rattle.std.proofs.Common.{ℕ, ◌≤◌, Option, Some, None, lit≤}
use Rattle.alg_model.specs.declared.edition.TheConstants.{MAX_LABEL_NUMBER}
use Rattle.alg_model.specs.Bounds.{greatest_number}
use Rattle.alg_model.specs.declared.alg.TheConstants.{MAX_INSTANCE_NUMBER, MAX_VALUE_NUMBER}
use Rattle.alg_model.specs.Expressions.{Expression, PureAlg, PureValue, PureLabel}
use Rattle.alg_model.specs.Laws.{at_most_more, label_at_most_more, greatest_is_bounded}
use Rattle.alg_model.specs.Properties.{PureProperty}
use Rattle.alg_model.specs.Verdicts.{PureVerdict, holds, fails, PureVerdicts, verdict_on, IsExact, ExactFor}
use Rattle.alg_model.specs.Instances.{SecondAtMost, VerdictAtMost, VerdictsAtMost}
use Rattle.report_text.specs.VerdictTexts.{CanPrintVerdict, CanPrintVerdicts}

SecondAtMost-le : (m n : ℕ) → m ≤ n → (o : Option PureValue) → SecondAtMost m o → SecondAtMost n o
SecondAtMost-le m n h None b = tt
SecondAtMost-le m n h (Some v) b = at_most_more m n v h b

printable_verdict : (p : PureProperty) (a : Expression) (S : PureLabel → Type 0) (m : ℕ) (v : PureVerdict)
    → m ≤ MAX_LABEL_NUMBER → IsExact p a S v → VerdictAtMost m MAX_INSTANCE_NUMBER v → CanPrintVerdict a v
printable_verdict p a S m holds h e b = tt
printable_verdict p a S m (fails x) h e b = record {
  is_of = e.2.is_of;
  bound = record {
    label = label_at_most_more m MAX_LABEL_NUMBER x.label h b.label;
    first = at_most_more MAX_INSTANCE_NUMBER MAX_VALUE_NUMBER x.first (lit≤ tt) b.first;
    second = SecondAtMost-le MAX_INSTANCE_NUMBER MAX_VALUE_NUMBER (lit≤ tt) x.second b.second;
  };
}

pub printable : (a : PureAlg) (S : PureLabel → Type 0) (v : PureVerdicts)
    → ExactFor a.expression S v → VerdictsAtMost (greatest_number a.edition) MAX_INSTANCE_NUMBER v → CanPrintVerdicts a.expression v
printable a S v e b p = printable_verdict p a.expression S (greatest_number a.edition) (verdict_on v p) (greatest_is_bounded a.edition) (e p) (b p)
