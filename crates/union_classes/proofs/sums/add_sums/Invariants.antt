use Rattle.std.proofs.Common.{take}
use Rattle.std.specs.List.{AllByRecursion}
use Rattle.alg_model.specs.Expressions.{Expression, sum}
use Rattle.alg_model.specs.Formation.{IsFormed}
use Rattle.alg_model.specs.declared.edition.Edition.{Edition}
use Rattle.alg_classes.specs.Classes.{ClassOf, alg_in}
use Rattle.alg_classes.specs.Growth.{Grown, Only, Over}
use Rattle.union_classes.specs.Sums.{beside_profile}
use Rattle.union_classes.proofs.sums.add_sums.Given as goal

-- grown over the classes so far
abbrev pub invariant-loop-y : goal.invariant-loop-y
invariant-loop-y l = (a b : Expression) (e : Edition) → IsFormed (sum a b) → ClassOf (alg_in a e) l.x → AllByRecursion (ClassOf (alg_in b e)) l.ys
    → Grown (ClassOf (alg_in (sum a b) e)) (Over (λ q. Only (beside_profile l.x.profile q)) (take l.y-index l.ys)) l.fn.sums l.sums
