use Rattle.alg_model.specs.Views.{expression_of}
use Rattle.wedge_nets.proofs.Steps.{steps, steps_of_parts}
use Rattle.wedge_nets.proofs.small.+small_acting.Given as goal

abbrev pub decreases-small_acting : goal.decreases-small_acting
decreases-small_acting l = steps (expression_of l.tree.now)

abbrev pub decreases-lex_acting : goal.decreases-lex_acting
decreases-lex_acting l = steps_of_parts (expression_of l.a.now) (expression_of l.b.now)

abbrev pub decreases-scoped_acting : goal.decreases-scoped_acting
decreases-scoped_acting l = steps_of_parts (expression_of l.a.now) (expression_of l.b.now)

abbrev pub decreases-union_acting : goal.decreases-union_acting
decreases-union_acting l = steps_of_parts (expression_of l.a.now) (expression_of l.b.now)

abbrev pub decreases-sum_acting : goal.decreases-sum_acting
decreases-sum_acting l = steps_of_parts (expression_of l.a.now) (expression_of l.b.now)
