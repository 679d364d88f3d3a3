use Rattle.best_first.proofs.Unique.{unique}
use Rattle.best_first.proofs.laws.best_first_is_unique.Goals as goal

pub returns : goal.returns
returns c = unique
