use Rattle.std.proofs.Common.{◌+◌, ◌*◌, ℕ}
use Rattle.alg_model.specs.Formation.{node_count}
use Rattle.alg_model.specs.Views.{expression_of}
use Rattle.property_infer.specs.declared.action.Action.{Action}
use Rattle.property_infer.specs.Asked.{part_of}
use Rattle.property_infer.proofs.example.+example_for.Given as goal

-- as many steps as the parts of both may take, and one
abbrev steps : Action → Action → ℕ
steps x y = 3 * (node_count (part_of x) + node_count (part_of y)) + 2

abbrev pub decreases-example_for : goal.decreases-example_for
decreases-example_for l = 3 * node_count (part_of l.action) + 1

abbrev pub decreases-label_example : goal.decreases-label_example
decreases-label_example l = 3 * node_count (expression_of l.part.now)

abbrev pub decreases-pair_example : goal.decreases-pair_example
decreases-pair_example l = steps l.x l.y

abbrev pub decreases-side_example : goal.decreases-side_example
decreases-side_example l = steps l.x l.y
