use Rattle.property_infer.proofs.Ways.{dead_by_both}
use Rattle.property_infer.proofs.pairs.asked_of_pair.Goals as goal

pub returns-in-Dead : goal.returns-in-Dead
returns-in-Dead c = rw c.in-Dead.is (dead_by_both c.args.x c.args.y)
