use Rattle.std.proofs.Common.{◌+◌, ◌*◌}
use Rattle.alg_model.specs.Formation.{node_count}
use Rattle.alg_model.specs.Forms.{form_expression}
use Rattle.alg_model.specs.Views.{expression_of}
use Rattle.sig_text.proofs.print.+push_tree_label.Given as goal

abbrev pub decreases-push_tree_label : goal.decreases-push_tree_label
decreases-push_tree_label l = 3 * node_count (expression_of l.tree.now) + 1

abbrev pub decreases-push_form_label : goal.decreases-push_form_label
decreases-push_form_label l = 3 * node_count (form_expression l.form)

abbrev pub decreases-push_pair : goal.decreases-push_pair
decreases-push_pair l = 3 * (node_count (expression_of l.a.now) + node_count (expression_of l.b.now)) + 2

abbrev pub decreases-push_outer : goal.decreases-push_outer
decreases-push_outer l = 3 * node_count (expression_of l.a.now) + 2

abbrev pub decreases-push_after : goal.decreases-push_after
decreases-push_after l = 3 * node_count (expression_of l.tree.now) + 2
