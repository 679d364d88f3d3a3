use Rattle.alg_classes.specs.FlatLaws.{worse_exactly}
use Rattle.alg_classes.proofs.flat.worse_values_are_found.Goals as goal

pub returns : goal.returns
returns c = worse_exactly
