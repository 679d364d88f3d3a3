use Rattle.std.proofs.Common.{length}
use Rattle.alg_model.proofs.formation.+ranks_rise.Given as goal

abbrev pub decreases-ranks_rise : goal.decreases-ranks_rise
decreases-ranks_rise l = length l.ranks.now
