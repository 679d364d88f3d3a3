use Rattle.std.proofs.Common.{◌≡◌, ◌+◌, ◌-◌, ℕ, slice_get, vec_len}
use Rattle.weave.specs.Lanes.{lane_in}
use Rattle.weave.proofs.replacing.make_place.Given as goal

abbrev pub invariant-loop-lanes : goal.invariant-loop-lanes
invariant-loop-lanes g l = (a : ℕ) → lane_in (slice_get l.lanes.items a) ≡ lane_in (slice_get l.fn.lanes.items a)

abbrev pub decreases-loop-lanes : goal.decreases-loop-lanes
decreases-loop-lanes g l = (l.at + 1) - vec_len l.lanes
