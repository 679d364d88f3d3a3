use Rattle.alg_model.specs.Carriers.{carrier_of}
use Rattle.alg_model.specs.Forms.{part_count}
use Rattle.alg_model.specs.Views.{expression_of}
use Rattle.property_infer.proofs.parts.+best_value.Given as goal

abbrev pub decreases-best_value : goal.decreases-best_value
decreases-best_value l = part_count (carrier_of (expression_of l.part.now))
