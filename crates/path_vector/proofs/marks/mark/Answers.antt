use Rattle.path_vector.proofs.PathMarks.{mark_sets}
use Rattle.path_vector.proofs.marks.mark.Goals as goal

pub returns-clause-marked : goal.returns-clause-marked
returns-clause-marked c = λ i. mark_sets c.args.words.now c.args.node.0 i c.requires
