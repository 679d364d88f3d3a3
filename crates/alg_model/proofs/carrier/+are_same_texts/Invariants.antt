use Rattle.std.proofs.Common.{length}
use Rattle.alg_model.proofs.carrier.+are_same_texts.Given as goal

abbrev pub decreases-are_same_texts : goal.decreases-are_same_texts
decreases-are_same_texts l = length l.ts.now
