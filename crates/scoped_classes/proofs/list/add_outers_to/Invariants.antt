use Rattle.std.proofs.Common.{◌≡◌, take}
use Rattle.std.specs.List.{AllByRecursion}
use Rattle.alg_model.specs.Bounds.{AtMost, greatest_number}
use Rattle.alg_model.specs.Carriers.{carrier_of}
use Rattle.alg_model.specs.Expressions.{Expression, scoped}
use Rattle.alg_model.specs.Formation.{IsFormed}
use Rattle.alg_model.specs.Views.{pure_carrier, pure_value}
use Rattle.alg_model.specs.declared.edition.Edition.{Edition}
use Rattle.alg_classes.specs.Classes.{ClassOf, alg_in}
use Rattle.alg_classes.specs.Growth.{Grown, Only, Over}
use Rattle.scoped_classes.specs.Scoped.{outer_rule}
use Rattle.scoped_classes.proofs.list.add_outers_to.Given as goal

-- grown over the classes so far
abbrev pub invariant-loop-x : goal.invariant-loop-x
invariant-loop-x l = (a b : Expression) (e : Edition) → IsFormed (scoped a b) → pure_carrier l.second ≡ carrier_of b
    → AtMost (greatest_number e) (pure_value l.value) → AllByRecursion (ClassOf (alg_in a e)) l.xs
    → Grown (ClassOf (alg_in (scoped a b) e)) (Over (λ p. Only (outer_rule (pure_carrier l.second) (pure_value l.value) p)) (take l.x-index l.xs))
    l.fn.list l.list
