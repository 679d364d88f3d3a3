use Rattle.node_core.specs.MachineOf.{machine_of, net_of}
use Rattle.node_core.specs.Running.{AreUpTo, IsRunning}
use Rattle.distance_tests.proofs.vectors.deliver_on.Given as goal

-- the machine still runs, after so many deliveries
abbrev pub invariant-loop-arc : goal.invariant-loop-arc
invariant-loop-arc g l =
    let machine = machine_of g.N.NodeCore.state g.N.NodeCore.note l.config in
    record {
      running : IsRunning g.N.NodeCore.kind (net_of l.config) machine;
      begun : AreUpTo g.N.NodeCore.kind machine l.made;
    }
