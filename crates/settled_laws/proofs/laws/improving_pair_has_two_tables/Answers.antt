use Rattle.settled_laws.specs.PairTables.{by_q_is_stable, by_p_is_stable}
use Rattle.settled_laws.proofs.laws.improving_pair_has_two_tables.Goals as goal

pub returns-clause-by_q : goal.returns-clause-by_q
returns-clause-by_q c = by_q_is_stable

pub returns-clause-by_p : goal.returns-clause-by_p
returns-clause-by_p c = by_p_is_stable
