use Rattle.std.proofs.Common.{[], take}
use Rattle.std.specs.List.{AllByRecursion}
use Rattle.alg_model.specs.Expressions.{Expression, sum}
use Rattle.alg_model.specs.Formation.{IsFormed}
use Rattle.alg_model.specs.declared.edition.Edition.{Edition}
use Rattle.alg_classes.specs.Classes.{ClassOf, alg_in}
use Rattle.alg_classes.specs.Growth.{Grown, Only, Over}
use Rattle.union_classes.specs.Sums.{beside_profile}
use Rattle.union_classes.proofs.sums.sum_class_list.Given as goal

-- grown over the classes of the first part so far, and all of the second
abbrev pub invariant-loop-x : goal.invariant-loop-x
invariant-loop-x l = (a b : Expression) (e : Edition) → IsFormed (sum a b)
    → AllByRecursion (ClassOf (alg_in a e)) l.x-items → AllByRecursion (ClassOf (alg_in b e)) l.ys
    → Grown (ClassOf (alg_in (sum a b) e)) (Over (λ p. Over (λ q. Only (beside_profile p q)) l.ys) (take l.x-index l.x-items)) [] l.sums
