use Rattle.net_graph.specs.Nets.{IsNet}
use Rattle.node_core.specs.MachineOf.{machine_of, net_of}
use Rattle.node_core.specs.Running.{AreUpTo}
use Rattle.flood_node.specs.Knowing.{IsFlood}
use Rattle.flood_node.specs.Node.{flooding}
use Rattle.flood_node.specs.Views.{pure_flooded}
use Rattle.flood_tests.proofs.floods.deliver_some.Given as goal

-- the machine still floods, after so many deliveries
abbrev pub invariant-loop-made : goal.invariant-loop-made
invariant-loop-made l =
    let machine = machine_of (λ n. n) pure_flooded l.config in
    record {
      net : IsNet (net_of l.config);
      flood : IsFlood (net_of l.config) machine;
      begun : AreUpTo flooding machine l.made;
    }
