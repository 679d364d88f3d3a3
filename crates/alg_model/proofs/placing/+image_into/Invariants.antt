use Rattle.std.proofs.Common.{◌+◌, ◌*◌, ℕ}
use Rattle.alg_model.specs.Expressions.{Expression}
use Rattle.alg_model.specs.Formation.{node_count}
use Rattle.alg_model.specs.Views.{expression_of}
use Rattle.alg_model.proofs.placing.+image_into.Given as goal

-- as many steps as the two sides of an operator may take, and two
abbrev steps : Expression → Expression → ℕ
steps a b = 3 * (node_count a + node_count b) + 2

abbrev pub decreases-image_into : goal.decreases-image_into
decreases-image_into l = 3 * node_count (expression_of l.tree.now)

abbrev pub decreases-lex_into : goal.decreases-lex_into
decreases-lex_into l = steps (expression_of l.a.now) (expression_of l.b.now)

abbrev pub decreases-scoped_into : goal.decreases-scoped_into
decreases-scoped_into l = steps (expression_of l.a.now) (expression_of l.b.now)

abbrev pub decreases-union_into : goal.decreases-union_into
decreases-union_into l = steps (expression_of l.a.now) (expression_of l.b.now)

abbrev pub decreases-sum_into : goal.decreases-sum_into
decreases-sum_into l = steps (expression_of l.a.now) (expression_of l.b.now)

abbrev pub decreases-first_into : goal.decreases-first_into
decreases-first_into l = 3 * node_count (expression_of l.tree.now) + 1

abbrev pub decreases-second_into : goal.decreases-second_into
decreases-second_into l = 3 * node_count (expression_of l.tree.now) + 1
