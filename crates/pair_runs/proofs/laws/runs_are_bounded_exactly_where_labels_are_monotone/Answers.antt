use Rattle.pair_runs.proofs.Bounded.{bounded_exactly_where_monotone}
use Rattle.pair_runs.proofs.laws.runs_are_bounded_exactly_where_labels_are_monotone.Goals as goal

pub returns : goal.returns
returns c = bounded_exactly_where_monotone
