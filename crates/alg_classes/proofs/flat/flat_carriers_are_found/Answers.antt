use Rattle.alg_classes.specs.FlatLaws.{flat_exactly}
use Rattle.alg_classes.proofs.flat.flat_carriers_are_found.Goals as goal

pub returns : goal.returns
returns c = flat_exactly
