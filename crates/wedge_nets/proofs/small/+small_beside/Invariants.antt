use Rattle.alg_model.specs.Views.{expression_of}
use Rattle.wedge_nets.proofs.Steps.{steps, steps_of_parts}
use Rattle.wedge_nets.proofs.small.+small_beside.Given as goal

abbrev pub decreases-small_beside : goal.decreases-small_beside
decreases-small_beside l = steps (expression_of l.tree.now)

abbrev pub decreases-small_side : goal.decreases-small_side
decreases-small_side l = steps_of_parts (expression_of l.a.now) (expression_of l.b.now)
