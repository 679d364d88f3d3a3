use Rattle.std.proofs.Common.{map}
use Rattle.node_core.specs.OrderLaws.{start_up_to}
use Rattle.path_vector.specs.Lawful.{path_vector_is_lawful}
use Rattle.path_vector.specs.Node.{path_vector}
use Rattle.path_vector.specs.Nodes.{state_of}
use Rattle.node_tests.proofs.changed_schedules.+rests_from.Goals as goal

pub comes_to_rest-requires-clause-begun : goal.comes_to_rest-requires-clause-begun
comes_to_rest-requires-clause-begun g t c =
    rw c.in_ok-config.ensures.start (start_up_to path_vector path_vector_is_lawful (map state_of c.args.nodes))
