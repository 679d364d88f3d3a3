use Rattle.pair_runs.proofs.Rounds.{never_rests}
use Rattle.pair_runs.proofs.laws.improving_pair_never_rests.Goals as goal

pub returns : goal.returns
returns c = never_rests
