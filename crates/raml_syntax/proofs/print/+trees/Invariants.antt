use Rattle.std.proofs.Common.{◌+◌, ◌*◌}
use Rattle.alg_model.specs.Formation.{node_count}
use Rattle.alg_model.specs.Views.{expression_of}
use Rattle.raml_syntax.proofs.print.+trees.Given as goal

-- nodes count twice, so that the parts of a node are smaller than it and greater than each
abbrev pub decreases-push_tree : goal.decreases-push_tree
decreases-push_tree l = 2 * node_count (expression_of l.tree.now)

abbrev pub decreases-push_paired : goal.decreases-push_paired
decreases-push_paired l = 2 * (node_count (expression_of l.a.now) + node_count (expression_of l.b.now)) + 1

abbrev pub decreases-push_single : goal.decreases-push_single
decreases-push_single l = 2 * node_count (expression_of l.a.now) + 1
