use Rattle.std.proofs.Common.{◌≡◌, map, subst, sym}
use Rattle.std.specs.List.{AllByRecursion}
use Rattle.node_core.specs.Machine.{AreUnbegun}
use Rattle.node_core.specs.OrderLaws.{start_up_to}
use Rattle.distance_node.specs.Lawful.{distance_is_lawful}
use Rattle.distance_node.specs.Node.{distance}
use Rattle.distance_node.specs.Nodes.{PureNode, state_of}
use Rattle.distance_node.specs.Starting.{new_unbegun}
use Rattle.distance_tests.proofs.Nets.{unbegun_nets}
use Rattle.distance_tests.proofs.vectors.comes_to.Goals as goal

pub hop_rows-requires : goal.hop_rows-requires
hop_rows-requires g c =
    let net = c.args.net.now in
    let unbegun = subst (AreUnbegun distance net 0) (sym c.in_ok-nodes.ensures) (new_unbegun net) in
    (net, subst (AllByRecursion (λ (n : PureNode). n.net ≡ net)) (sym c.as_slice.ensures) (unbegun_nets net 0 c.in_ok-nodes.nodes unbegun))

pub start-requires : goal.start-requires
start-requires g c = subst (AreUnbegun distance c.args.net.now 0) (sym c.in_ok-nodes.ensures) (new_unbegun c.args.net.now)

pub deliver_on-requires-clause-begun : goal.deliver_on-requires-clause-begun
deliver_on-requires-clause-begun g c = rw c.in_ok-config.ensures.start (start_up_to distance distance_is_lawful (map state_of c.in_ok-nodes.nodes))
