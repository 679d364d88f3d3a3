use Rattle.std.proofs.Common.{◌+◌, ◌*◌}
use Rattle.alg_model.specs.Formation.{node_count}
use Rattle.alg_model.specs.Views.{expression_of}
use Rattle.code_gen.proofs.compile.+push_label.Given as goal

abbrev pub decreases-push_label : goal.decreases-push_label
decreases-push_label l = 2 * node_count (expression_of l.tree.now)

abbrev pub decreases-push_lex : goal.decreases-push_lex
decreases-push_lex l = 2 * (node_count (expression_of l.a.now) + node_count (expression_of l.b.now)) + 1

abbrev pub decreases-push_scoped : goal.decreases-push_scoped
decreases-push_scoped l = 2 * (node_count (expression_of l.a.now) + node_count (expression_of l.b.now)) + 1

abbrev pub decreases-push_union : goal.decreases-push_union
decreases-push_union l = 2 * (node_count (expression_of l.a.now) + node_count (expression_of l.b.now)) + 1

abbrev pub decreases-push_sum : goal.decreases-push_sum
decreases-push_sum l = 2 * (node_count (expression_of l.a.now) + node_count (expression_of l.b.now)) + 1
