use Rattle.std.proofs.Common.{◌≡◌, ◌≤◌, ◌^◌, ◌-◌, vec_len}
use Rattle.node_core.specs.Machine.{Machine}
use Rattle.node_core.specs.Running.{IsRunning}
use Rattle.woven_laws.specs.Counts.{waiting_on}
use Rattle.weave.specs.Gathered.{view_at}
use Rattle.weave.specs.Rounds.{HasCome}
use Rattle.weave.proofs.at_once.run_rounds.Given as goal

-- the rounds so far led to the blocks and totals
abbrev pub invariant-loop-totals : goal.invariant-loop-totals
invariant-loop-totals g l =
    let k = g.N.NodeCore in
    let n = vec_len l.fn.blocks in
    record {
      count : vec_len l.blocks ≡ n;
      come : (c : Machine k.State k.Note) → IsRunning k.kind l.net c → waiting_on l.net c ≤ 2 ^ 20 → HasCome k.kind l.net n l.turns c (view_at k.state k.note l.fn.blocks.items) l.fn.totals
          → HasCome k.kind l.net n l.turns c (view_at k.state k.note l.blocks.items) l.totals;
    }

-- each round after the first takes a message
abbrev pub decreases-loop-totals : goal.decreases-loop-totals
decreases-loop-totals g l = l.turns - l.totals.taken
