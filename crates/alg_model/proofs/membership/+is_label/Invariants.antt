use Rattle.std.proofs.Common.{◌+◌, ◌*◌}
use Rattle.alg_model.specs.Formation.{node_count}
use Rattle.alg_model.specs.Forms.{form_expression}
use Rattle.alg_model.specs.Views.{expression_of}
use Rattle.alg_model.proofs.membership.+is_label.Given as goal

abbrev pub decreases-is_label : goal.decreases-is_label
decreases-is_label l = 2 * node_count (expression_of l.tree.now) + 1

abbrev pub decreases-is_label_of : goal.decreases-is_label_of
decreases-is_label_of l = 2 * node_count (form_expression l.form)
