use Rattle.std.proofs.Common.{◌≡◌, ◌++◌, ℕ, List, [], length, map, slice_get}
use Rattle.meta_base.specs.declared.ids.ArcId.{ArcId}
use Rattle.node_core.specs.Kinds.{on_arc}
use Rattle.node_core.specs.Configs.{numbered}
use Rattle.weave.specs.Lanes.{HasPassed, lane_in}
use Rattle.weave.proofs.sending.send_all.Given as goal

-- the messages so far were sent on their arcs, and the others are left
abbrev pub invariant-loop-arc : goal.invariant-loop-arc
invariant-loop-arc g l =
    (sent : List (ArcId × g.row.M.Denot)) × (sent ++ l.left.items ≡ l.fn.out) × ((b : ℕ) → HasPassed (lane_in (slice_get l.fn.lanes.items b)) (on_arc b (map numbered sent)) [] (lane_in (slice_get l.lanes.items b)))

abbrev pub decreases-loop-arc : goal.decreases-loop-arc
decreases-loop-arc g l = length l.left.items
