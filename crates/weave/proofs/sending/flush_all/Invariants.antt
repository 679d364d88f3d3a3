use Rattle.std.proofs.Common.{◌≡◌, ℕ, slice_get}
use Rattle.weave.specs.Lanes.{lane_in}
use Rattle.weave.proofs.sending.flush_all.Given as goal

-- no lane changes
abbrev pub invariant-loop : goal.invariant-loop
invariant-loop g l = (b : ℕ) → lane_in (slice_get l.lanes.items b) ≡ lane_in (slice_get l.fn.lanes.items b)
