use Rattle.std.proofs.Common.{◌+◌, ◌*◌, ℕ}
use Rattle.alg_model.specs.Expressions.{Expression}
use Rattle.alg_model.specs.Formation.{node_count}
use Rattle.alg_model.specs.Views.{expression_of}
use Rattle.profile_labels.proofs.parts.+part_labels.Given as goal

-- as many steps as the two sides of an operator may take, and one
abbrev steps : Expression → Expression → ℕ
steps a b = 2 * (node_count a + node_count b) + 1

abbrev pub decreases-part_labels : goal.decreases-part_labels
decreases-part_labels l = 2 * node_count (expression_of l.part.now)

abbrev pub decreases-labels_of_lex : goal.decreases-labels_of_lex
decreases-labels_of_lex l = steps (expression_of l.a.now) (expression_of l.b.now)

abbrev pub decreases-labels_of_scoped : goal.decreases-labels_of_scoped
decreases-labels_of_scoped l = steps (expression_of l.a.now) (expression_of l.b.now)

abbrev pub decreases-labels_of_union : goal.decreases-labels_of_union
decreases-labels_of_union l = steps (expression_of l.a.now) (expression_of l.b.now)

abbrev pub decreases-labels_of_sum : goal.decreases-labels_of_sum
decreases-labels_of_sum l = steps (expression_of l.a.now) (expression_of l.b.now)

abbrev pub decreases-labels_of_plus : goal.decreases-labels_of_plus
decreases-labels_of_plus l = steps (expression_of l.a.now) (expression_of l.b.now)
