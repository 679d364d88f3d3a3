use Rattle.alg_model.specs.Carriers.{carrier_of}
use Rattle.alg_model.specs.Forms.{part_count}
use Rattle.alg_model.specs.Views.{expression_of}
use Rattle.alg_model.proofs.carrier.+have_same_carrier.Given as goal

abbrev pub decreases-have_same_carrier : goal.decreases-have_same_carrier
decreases-have_same_carrier l = part_count (carrier_of (expression_of l.a.now))
