use Rattle.alg_model.specs.Carriers.{carrier_of}
use Rattle.alg_model.specs.Forms.{part_count}
use Rattle.alg_model.specs.Views.{expression_of}
use Rattle.code_gen.proofs.pieces.+push_passing.Given as goal

abbrev pub decreases-push_passing : goal.decreases-push_passing
decreases-push_passing l = part_count (carrier_of (expression_of l.tree.now))
