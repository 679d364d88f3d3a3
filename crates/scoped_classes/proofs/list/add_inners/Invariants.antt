use Rattle.std.proofs.Common.{◌≡◌, take}
use Rattle.std.specs.List.{AllByRecursion}
use Rattle.alg_model.specs.Carriers.{carrier_of}
use Rattle.alg_model.specs.Expressions.{Expression, scoped}
use Rattle.alg_model.specs.Formation.{IsFormed}
use Rattle.alg_model.specs.Views.{pure_carrier}
use Rattle.alg_model.specs.declared.edition.Edition.{Edition}
use Rattle.alg_classes.specs.Classes.{ClassOf, alg_in}
use Rattle.alg_classes.specs.Growth.{Grown, Only, Over}
use Rattle.scoped_classes.specs.Scoped.{inner_rule}
use Rattle.scoped_classes.proofs.list.add_inners.Given as goal

-- grown over the classes so far
abbrev pub invariant-loop-y : goal.invariant-loop-y
invariant-loop-y l = (a b : Expression) (e : Edition) → IsFormed (scoped a b) → pure_carrier l.first ≡ carrier_of a
    → AllByRecursion (ClassOf (alg_in b e)) l.ys
    → Grown (ClassOf (alg_in (scoped a b) e)) (Over (λ q. Only (inner_rule (pure_carrier l.first) q)) (take l.y-index l.ys)) l.fn.list l.list
