use Rattle.topology_file.proofs.Kept.{kept}
use Rattle.topology_file.proofs.laws.changes_of_texts_may_be_made.Goals as goal

pub returns-clause-few : goal.returns-clause-few
returns-clause-few c = λ text alg f h. (kept c.spelled_labels_are_labels.ensures text alg f h).few

pub returns-clause-may : goal.returns-clause-may
returns-clause-may c = λ text alg f h. (kept c.spelled_labels_are_labels.ensures text alg f h).may
