use Rattle.std.proofs.Common.{take}
use Rattle.std.specs.List.{AllByRecursion}
use Rattle.alg_model.specs.Expressions.{Expression, plus}
use Rattle.alg_model.specs.Formation.{IsFormed}
use Rattle.alg_model.specs.declared.edition.Edition.{Edition}
use Rattle.alg_classes.specs.Classes.{ClassOf, alg_in}
use Rattle.alg_classes.specs.Growth.{Grown, Only, Over}
use Rattle.union_classes.proofs.pluses.add_seconds.Given as goal

-- grown over the classes so far
abbrev pub invariant-loop-y : goal.invariant-loop-y
invariant-loop-y l = (a b : Expression) (e : Edition) → IsFormed (plus a b) → AllByRecursion (ClassOf (alg_in b e)) l.ys
    → Grown (ClassOf (alg_in (plus a b) e)) (Over Only (take l.y-index l.ys)) l.fn.pluses l.pluses
