use Rattle.std.proofs.Common.{subst, arith}
use Rattle.std.proofs.lemmas.Result.{IfOk-weaker}
use Rattle.meta_base.specs.declared.limits.TheConstants.{MAX_NUMBER}
use Rattle.alg_model.specs.declared.alg.TheConstants.{MAX_INSTANCE_NUMBER}
use Rattle.alg_model.specs.Expressions.{union}
use Rattle.alg_model.specs.Views.{pure_value}
use Rattle.alg_model.specs.Carriers.{In}
use Rattle.alg_model.specs.Laws.{at_most_more}
use Rattle.alg_classes.specs.Classes.{ClassOf, alg_in}
use Rattle.union_classes.specs.Made.{IsSecondOf, IsValueOf}
use Rattle.union_classes.proofs.CoverLaws.{second_class_of}
use Rattle.union_classes.proofs.unions.union_second_class.Goals as goal

pub returns-clause-class : goal.returns-clause-class
returns-clause-class c = λ a b e formed carrier is.
    let v = pure_value c.in_ok-member.field-0 in
    let other : IsValueOf (alg_in a e) v = (
      subst (λ d. In d v) carrier c.in_ok-member.ensures.member,
      at_most_more MAX_NUMBER MAX_INSTANCE_NUMBER v (omega arith) c.in_ok-member.ensures.small,
    ) in
    IfOk-weaker c.second_class.result (IsSecondOf c.args.y.now v) (ClassOf (alg_in (union a b) e))
    (λ z made. second_class_of a b e c.args.y.now v z other is made) c.second_class.ensures
