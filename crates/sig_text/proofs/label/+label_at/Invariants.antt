use Rattle.std.proofs.Common.{◌+◌, ◌*◌, ℕ}
use Rattle.alg_model.specs.Expressions.{Expression}
use Rattle.alg_model.specs.Formation.{node_count}
use Rattle.alg_model.specs.Forms.{form_expression}
use Rattle.alg_model.specs.Views.{expression_of}
use Rattle.sig_text.proofs.label.+label_at.Given as goal

-- as many steps as the parts of an operator may take
abbrev steps : Expression → Expression → ℕ
steps a b = 4 * (node_count a + node_count b)

abbrev pub decreases-label_at : goal.decreases-label_at
decreases-label_at l = 4 * node_count (expression_of l.tree.now) + 1

abbrev pub decreases-form_label_at : goal.decreases-form_label_at
decreases-form_label_at l = 4 * node_count (form_expression l.form)

abbrev pub decreases-two_at : goal.decreases-two_at
decreases-two_at l = steps (expression_of l.a.now) (expression_of l.b.now) + 2

abbrev pub decreases-lex_at : goal.decreases-lex_at
decreases-lex_at l = steps (expression_of l.a.now) (expression_of l.b.now) + 3

abbrev pub decreases-sum_at : goal.decreases-sum_at
decreases-sum_at l = steps (expression_of l.a.now) (expression_of l.b.now) + 3

abbrev pub decreases-scoped_at : goal.decreases-scoped_at
decreases-scoped_at l = steps (expression_of l.a.now) (expression_of l.b.now) + 3

abbrev pub decreases-outer_at : goal.decreases-outer_at
decreases-outer_at l = steps (expression_of l.a.now) (expression_of l.b.now) + 2

abbrev pub decreases-inner_at : goal.decreases-inner_at
decreases-inner_at l = 4 * node_count (expression_of l.b.now) + 2

abbrev pub decreases-sided_at : goal.decreases-sided_at
decreases-sided_at l = steps (expression_of l.a.now) (expression_of l.b.now) + 3
