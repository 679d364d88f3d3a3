use Rattle.topology_file.proofs.Kept.{kept}
use Rattle.topology_file.proofs.laws.networks_keep_their_algebra.Goals as goal

pub returns : goal.returns
returns c = λ text alg f h. (kept c.spelled_labels_are_labels.ensures text alg f h).alg_is
