use Rattle.alg_model.specs.Forms.{part_count}
use Rattle.alg_classes.proofs.flat.+is_flat.Given as goal

abbrev pub decreases-is_flat : goal.decreases-is_flat
decreases-is_flat g l = part_count (g.C.Shaped.carrier l.shaped.now)
