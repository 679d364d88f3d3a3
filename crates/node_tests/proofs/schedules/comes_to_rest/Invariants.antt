use Rattle.std.proofs.Common.{◌≡◌}
use Rattle.node_core.specs.MachineOf.{machine_of, net_of}
use Rattle.node_core.specs.Running.{AreUpTo, IsRunning}
use Rattle.node_tests.proofs.schedules.comes_to_rest.Given as goal

-- the machine still runs on its network, after so many deliveries
abbrev pub invariant-loop-made : goal.invariant-loop-made
invariant-loop-made g l =
    let machine = machine_of g.N.NodeCore.state g.N.NodeCore.note l.config in
    record {
      net : net_of l.config ≡ net_of l.fn.config;
      running : IsRunning g.N.NodeCore.kind (net_of l.config) machine;
      begun : AreUpTo g.N.NodeCore.kind machine l.made;
    }
