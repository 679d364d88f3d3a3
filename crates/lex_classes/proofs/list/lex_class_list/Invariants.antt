use Rattle.std.proofs.Common.{[], take}
use Rattle.std.specs.List.{AllByRecursion}
use Rattle.alg_model.specs.Expressions.{Expression, lex}
use Rattle.alg_model.specs.Formation.{IsFormed}
use Rattle.alg_model.specs.declared.edition.Edition.{Edition}
use Rattle.alg_classes.specs.Classes.{ClassOf, alg_in}
use Rattle.alg_classes.specs.Growth.{Grown}
use Rattle.lex_classes.specs.Lexical.{OfAllPairs}
use Rattle.lex_classes.proofs.list.lex_class_list.Given as goal

-- grown by the pairs that begin with the classes so far
abbrev pub invariant-loop-x : goal.invariant-loop-x
invariant-loop-x l = (a b : Expression) (e : Edition) → IsFormed (lex a b)
    → AllByRecursion (ClassOf (alg_in a e)) l.a → AllByRecursion (ClassOf (alg_in b e)) l.b
    → Grown (ClassOf (alg_in (lex a b) e)) (OfAllPairs (take l.x-index l.a) l.b) [] l.list
