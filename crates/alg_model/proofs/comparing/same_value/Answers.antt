use Rattle.alg_model.specs.Tests.{same_value-Decides}
use Rattle.alg_model.specs.Views.{pure_value}
use Rattle.alg_model.proofs.comparing.same_value.Goals as goal

pub returns-clause-same : goal.returns-clause-same
returns-clause-same c = rw c.are_same.ensures (same_value-Decides (pure_value c.args.a.now) (pure_value c.args.b.now))
