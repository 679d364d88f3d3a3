use Rattle.alg_model.specs.Formation.{node_count}
use Rattle.alg_model.specs.Views.{expression_of}
use Rattle.property_infer.proofs.labels.+part_profile.Given as goal

abbrev pub decreases-part_profile : goal.decreases-part_profile
decreases-part_profile l = node_count (expression_of l.part.now)
