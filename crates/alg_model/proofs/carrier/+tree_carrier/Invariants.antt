use Rattle.alg_model.specs.Carriers.{carrier_of}
use Rattle.alg_model.specs.Forms.{part_count}
use Rattle.alg_model.specs.Views.{expression_of}
use Rattle.alg_model.proofs.carrier.+tree_carrier.Given as goal

abbrev pub decreases-tree_carrier : goal.decreases-tree_carrier
decreases-tree_carrier l = part_count (carrier_of (expression_of l.tree.now))
