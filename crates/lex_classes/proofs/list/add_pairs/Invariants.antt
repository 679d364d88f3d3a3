use Rattle.std.proofs.Common.{take}
use Rattle.std.specs.List.{AllByRecursion}
use Rattle.alg_model.specs.Expressions.{Expression, lex}
use Rattle.alg_model.specs.Formation.{IsFormed}
use Rattle.alg_model.specs.declared.edition.Edition.{Edition}
use Rattle.alg_classes.specs.Classes.{ClassOf, alg_in}
use Rattle.alg_classes.specs.Growth.{Grown}
use Rattle.lex_classes.specs.Lexical.{WithEach}
use Rattle.lex_classes.proofs.list.add_pairs.Given as goal

-- grown by the pairs with the classes so far
abbrev pub invariant-loop-y : goal.invariant-loop-y
invariant-loop-y l = (a b : Expression) (e : Edition) → IsFormed (lex a b) → ClassOf (alg_in a e) l.x → AllByRecursion (ClassOf (alg_in b e)) l.ys
    → Grown (ClassOf (alg_in (lex a b) e)) (WithEach (take l.y-index l.ys) l.x.profile) l.fn.list l.list
