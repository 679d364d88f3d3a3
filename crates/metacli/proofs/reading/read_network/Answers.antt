use Rattle.std.proofs.Common.{◌∙◌}
use Rattle.topology_file.specs.Views.{pure_file}
use Rattle.metacli.proofs.reading.read_network.Goals as goal

pub returns-in-Ok-clause-alg : goal.returns-in-Ok-clause-alg
returns-in-Ok-clause-alg g c =
    c.networks_keep_their_algebra.ensures c.as_slice.result.now c.in_ok-alg.alg (pure_file c.in-Ok.file) c.in-Ok.ensures.network
    ∙ c.in_ok-alg.ensures
