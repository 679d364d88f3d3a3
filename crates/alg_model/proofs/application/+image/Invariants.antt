use Rattle.std.proofs.Common.{◌+◌, ◌*◌, ℕ}
use Rattle.alg_model.specs.Expressions.{Expression}
use Rattle.alg_model.specs.Formation.{node_count}
use Rattle.alg_model.specs.Views.{expression_of}
use Rattle.alg_model.proofs.application.+image.Given as goal

-- as many steps as the two sides of an operator may take, and one
abbrev steps : Expression → Expression → ℕ
steps a b = 2 * (node_count a + node_count b) + 1

abbrev pub decreases-image : goal.decreases-image
decreases-image l = 2 * node_count (expression_of l.tree.now)

abbrev pub decreases-lex_image : goal.decreases-lex_image
decreases-lex_image l = steps (expression_of l.a.now) (expression_of l.b.now)

abbrev pub decreases-scoped_image : goal.decreases-scoped_image
decreases-scoped_image l = steps (expression_of l.a.now) (expression_of l.b.now)

abbrev pub decreases-union_image : goal.decreases-union_image
decreases-union_image l = steps (expression_of l.a.now) (expression_of l.b.now)

abbrev pub decreases-sum_image : goal.decreases-sum_image
decreases-sum_image l = steps (expression_of l.a.now) (expression_of l.b.now)
