use Rattle.alg_model.specs.Carriers.{carrier_of}
use Rattle.alg_model.specs.Forms.{part_count}
use Rattle.alg_model.specs.Views.{expression_of}
use Rattle.alg_model.proofs.preference.+compare.Given as goal

abbrev pub decreases-compare : goal.decreases-compare
decreases-compare l = part_count (carrier_of (expression_of l.tree.now))
