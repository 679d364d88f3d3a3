use Rattle.std.proofs.Common.{◌≡◌}
use Rattle.node_core.specs.MachineOf.{machine_of, net_of}
use Rattle.node_core.specs.Running.{AreUpTo, IsRunning}
use Rattle.path_vector.specs.Node.{path_vector}
use Rattle.path_vector.specs.Nodes.{state_of}
use Rattle.path_vector.specs.Updates.{pure_update}
use Rattle.rest_tests.proofs.drawn.follow.Given as goal

-- the machine still runs on its network, after so many deliveries
abbrev pub invariant-loop-made : goal.invariant-loop-made
invariant-loop-made g l =
    let machine = machine_of state_of pure_update l.config in
    record {
      net : net_of l.config ≡ net_of l.fn.config;
      running : IsRunning path_vector (net_of l.config) machine;
      begun : AreUpTo path_vector machine l.made;
    }
