use Rattle.std.proofs.Common.{take}
use Rattle.std.specs.List.{AllByRecursion}
use Rattle.alg_model.specs.Expressions.{Expression, plus}
use Rattle.alg_model.specs.Formation.{IsFormed}
use Rattle.alg_model.specs.declared.edition.Edition.{Edition}
use Rattle.alg_classes.specs.Classes.{ClassOf, alg_in}
use Rattle.alg_classes.specs.Growth.{Grown, Only, Over}
use Rattle.union_classes.proofs.pluses.add_firsts.Given as goal

-- grown over the classes so far
abbrev pub invariant-loop-x : goal.invariant-loop-x
invariant-loop-x l = (a b : Expression) (e : Edition) → IsFormed (plus a b) → AllByRecursion (ClassOf (alg_in a e)) l.xs
    → Grown (ClassOf (alg_in (plus a b) e)) (Over Only (take l.x-index l.xs)) l.fn.pluses l.pluses
