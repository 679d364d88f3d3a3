use Rattle.std.proofs.Common.{map, subst, sym}
use Rattle.std.proofs.lemmas.List.{map-id}
use Rattle.std.proofs.lemmas.Result.{IfOk-weaker}
use Rattle.node_core.specs.Machine.{AreUnbegun}
use Rattle.node_core.specs.MachineOf.{machine_of, net_of}
use Rattle.node_core.specs.OrderLaws.{start_up_to}
use Rattle.node_core.specs.Running.{AreUpTo}
use Rattle.flood_node.specs.Lawful.{flooding_is_lawful}
use Rattle.flood_node.specs.Node.{flooding}
use Rattle.flood_node.specs.Views.{pure_flooded}
use Rattle.flood_tests.proofs.Kept.{starts_to_flood}
use Rattle.flood_tests.proofs.floods.start.Goals as goal

pub start-requires : goal.start-requires
start-requires c = subst (AreUnbegun flooding c.args.net.now 0) (sym (map-id c.in_ok-nodes.nodes)) c.in_ok-nodes.ensures.nodes

pub returns-clause-flood : goal.returns-clause-flood
returns-clause-flood c =
    let nodes = c.in_ok-nodes.nodes in
    starts_to_flood c.args.net.now (map (λ n. n) nodes) net_of (machine_of (λ n. n) pure_flooded) c.start.result c.in_ok-nodes.ensures.net
    (subst (AreUnbegun flooding c.args.net.now 0) (sym (map-id nodes)) c.in_ok-nodes.ensures.nodes) c.start.ensures.net c.start.ensures.start

pub returns-clause-begun : goal.returns-clause-begun
returns-clause-begun c =
    IfOk-weaker c.start.result _ _ (λ config e. subst (λ m. AreUpTo flooding m 0) (sym e) (start_up_to flooding flooding_is_lawful (map (λ n. n) c.in_ok-nodes.nodes))) c.start.ensures.start
