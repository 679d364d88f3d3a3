use Rattle.alg_model.specs.Carriers.{carrier_of}
use Rattle.alg_model.specs.Forms.{part_count}
use Rattle.alg_model.specs.Views.{expression_of}
use Rattle.code_gen.proofs.width.+width.Given as goal

abbrev pub decreases-width : goal.decreases-width
decreases-width l = part_count (carrier_of (expression_of l.tree.now))
