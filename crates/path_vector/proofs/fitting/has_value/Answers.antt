use Rattle.alg_model.specs.Tests.{is_in, is_in-Decides}
use Rattle.alg_model.specs.Views.{pure_value}
use Rattle.net_graph.specs.Tables.{carrier}
use Rattle.path_vector.proofs.PathTests.{one_test}
use Rattle.path_vector.proofs.fitting.has_value.Goals as goal

pub returns : goal.returns
returns c =
    let value = pure_value c.args.value.now in
    one_test c.value_in.result (is_in (carrier c.args.net.now) value) (rw c.alg.ensures.alg at c.value_in.ensures) (is_in-Decides (carrier c.args.net.now) value)
