use Rattle.std.proofs.Common.{◌≡◌, take}
use Rattle.code_gen.proofs.order.rank_words.Given as goal

abbrev pub invariant-loop-rank : goal.invariant-loop-rank
invariant-loop-rank l = l.words ≡ take l.rank-index l.ranks
