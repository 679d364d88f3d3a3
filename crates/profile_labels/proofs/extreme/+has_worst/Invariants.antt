use Rattle.alg_model.specs.Forms.{part_count}
use Rattle.profile_labels.proofs.extreme.+has_worst.Given as goal

abbrev pub decreases-has_worst : goal.decreases-has_worst
decreases-has_worst g l = part_count (g.C.Shaped.carrier l.shaped.now)
