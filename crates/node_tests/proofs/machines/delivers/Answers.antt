use Rattle.std.proofs.Common.{map}
use Rattle.node_core.specs.OrderLaws.{start_up_to}
use Rattle.path_vector.specs.Lawful.{path_vector_is_lawful}
use Rattle.path_vector.specs.Node.{path_vector}
use Rattle.path_vector.specs.Nodes.{state_of}
use Rattle.node_tests.proofs.machines.delivers.Goals as goal

pub makes_steps-requires-clause-begun : goal.makes_steps-requires-clause-begun
makes_steps-requires-clause-begun g c =
    rw c.in_ok-config.ensures.start (start_up_to path_vector path_vector_is_lawful (map state_of c.in_ok-nodes.nodes))
