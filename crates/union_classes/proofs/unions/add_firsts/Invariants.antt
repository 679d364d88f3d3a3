use Rattle.std.proofs.Common.{take}
use Rattle.std.specs.List.{AllByRecursion}
use Rattle.alg_model.specs.Expressions.{Expression, union}
use Rattle.alg_model.specs.Formation.{IsFormed}
use Rattle.alg_model.specs.Views.{pure_value}
use Rattle.alg_model.specs.declared.edition.Edition.{Edition}
use Rattle.alg_classes.specs.Classes.{ClassOf, alg_in}
use Rattle.alg_classes.specs.Growth.{Grown, Only, Over}
use Rattle.union_classes.specs.Made.{IsValueOf}
use Rattle.union_classes.specs.Sums.{first_profile}
use Rattle.union_classes.proofs.unions.add_firsts.Given as goal

-- grown over the classes so far
abbrev pub invariant-loop-x : goal.invariant-loop-x
invariant-loop-x l = (a b : Expression) (e : Edition) → IsFormed (union a b) → AllByRecursion (ClassOf (alg_in a e)) l.xs
    → IsValueOf (alg_in b e) (pure_value l.other)
    → Grown (ClassOf (alg_in (union a b) e)) (Over (λ p. Only (first_profile p)) (take l.x-index l.xs)) l.fn.unions l.unions
