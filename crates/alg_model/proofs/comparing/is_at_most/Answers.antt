use Rattle.alg_model.specs.Tests.{is_at_most-Decides}
use Rattle.alg_model.specs.Views.{pure_value}
use Rattle.alg_model.proofs.comparing.is_at_most.Goals as goal

pub returns-clause-at_most : goal.returns-clause-at_most
returns-clause-at_most c = rw c.has_at_most.ensures (is_at_most-Decides c.args.greatest (pure_value c.args.value.now))
