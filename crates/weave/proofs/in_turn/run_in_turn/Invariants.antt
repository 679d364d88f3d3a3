use Rattle.std.proofs.Common.{◌≡◌, ◌≤◌, ◌^◌, ◌-◌}
use Rattle.node_core.specs.Machine.{Machine}
use Rattle.node_core.specs.Running.{AreUpTo, IsRunning}
use Rattle.woven_laws.specs.Counts.{waiting_on}
use Rattle.weave.specs.Going.{HasGone}
use Rattle.weave.proofs.in_turn.run_in_turn.Given as goal

-- the deliveries so far led to the nodes and totals
abbrev pub invariant-loop-totals : goal.invariant-loop-totals
invariant-loop-totals g l =
    let all = g.A.AllNodes in
    record {
      same : all.net l.nodes ≡ all.net l.fn.nodes;
      gone : (c : Machine all.State all.Note) → IsRunning all.kind (all.net l.fn.nodes) c → waiting_on (all.net l.fn.nodes) c ≤ 2 ^ 20 → AreUpTo all.kind c 0
          → HasGone all.kind (all.net l.fn.nodes) l.turns c (all.machine l.fn.nodes) (all.log l.fn.nodes) l.fn.totals
          → HasGone all.kind (all.net l.fn.nodes) l.turns c (all.machine l.nodes) (all.log l.nodes) l.totals;
    }

-- each turn takes a message
abbrev pub decreases-loop-totals : goal.decreases-loop-totals
decreases-loop-totals g l = l.turns - l.totals.taken
