use Rattle.std.proofs.Common.{map}
use Rattle.node_core.specs.OrderLaws.{start_up_to}
use Rattle.path_vector.specs.Lawful.{path_vector_is_lawful}
use Rattle.path_vector.specs.Node.{path_vector}
use Rattle.path_vector.specs.Nodes.{state_of}
use Rattle.rest_tests.proofs.drawn.follow_both.Goals as goal

pub follow-requires-clause-begun : goal.follow-requires-clause-begun
follow-requires-clause-begun g c =
    rw c.in_ok-config.ensures.start (start_up_to path_vector path_vector_is_lawful (map state_of c.in_ok-nodes.nodes))

pub follow-requires-2-clause-begun : goal.follow-requires-2-clause-begun
follow-requires-2-clause-begun g c =
    rw c.in_ok-config-2.ensures.start (start_up_to path_vector path_vector_is_lawful (map state_of c.in_ok-nodes-2.nodes))
