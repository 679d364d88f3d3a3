use Rattle.std.proofs.Common.{take}
use Rattle.std.specs.List.{AllByRecursion}
use Rattle.alg_model.specs.Expressions.{Expression, union}
use Rattle.alg_model.specs.Formation.{IsFormed}
use Rattle.alg_model.specs.Views.{pure_value}
use Rattle.alg_model.specs.declared.edition.Edition.{Edition}
use Rattle.alg_classes.specs.Classes.{ClassOf, alg_in}
use Rattle.alg_classes.specs.Growth.{Grown, Only, Over}
use Rattle.union_classes.specs.Made.{IsValueOf}
use Rattle.union_classes.specs.Sums.{second_profile}
use Rattle.union_classes.proofs.unions.add_seconds.Given as goal

-- grown over the classes so far
abbrev pub invariant-loop-y : goal.invariant-loop-y
invariant-loop-y l = (a b : Expression) (e : Edition) → IsFormed (union a b) → AllByRecursion (ClassOf (alg_in b e)) l.ys
    → IsValueOf (alg_in a e) (pure_value l.other)
    → Grown (ClassOf (alg_in (union a b) e)) (Over (λ p. Only (second_profile p)) (take l.y-index l.ys)) l.fn.unions l.unions
