use Rattle.node_core.specs.MachineOf.{machine_of, net_of}
use Rattle.node_core.specs.Running.{AreUpTo, IsRunning}
use Rattle.node_tests.proofs.machines.makes_steps.Given as goal

-- the machine still runs, after so many deliveries
abbrev pub invariant-loop-step : goal.invariant-loop-step
invariant-loop-step g l =
    let machine = machine_of g.N.NodeCore.state g.N.NodeCore.note l.config in
    record {
      running : IsRunning g.N.NodeCore.kind (net_of l.config) machine;
      begun : AreUpTo g.N.NodeCore.kind machine l.made;
    }
