use Rattle.std.proofs.Common.{◌≡◌, map, take}
use Rattle.node_core.specs.Auditing.{IsReached}
use Rattle.node_core.specs.MachineOf.{net_of, machine_of}
use Rattle.node_core.specs.Running.{IsRunning}
use Rattle.node_core.proofs.config.Config.replay.Given as goal

-- the journal so far leads to the machine
abbrev pub invariant-loop-place : goal.invariant-loop-place
invariant-loop-place g l =
    let k = g.N.NodeCore.kind in
    let machine = machine_of g.N.NodeCore.state g.N.NodeCore.note l.config in
    record {
      net : net_of l.config ≡ l.fn.net;
      running : IsRunning k l.fn.net machine;
      reached : IsReached k l.fn.net (map g.N.NodeCore.state l.fn.nodes) (take l.place l.journal) machine;
    }
