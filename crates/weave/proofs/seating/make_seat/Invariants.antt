use Rattle.std.proofs.Common.{◌≡◌, ◌+◌, ◌-◌, ℕ, slice_get, vec_len}
use Rattle.weave.specs.Blocks.{flat}
use Rattle.weave.proofs.seating.make_seat.Given as goal

abbrev pub invariant-loop-seats : goal.invariant-loop-seats
invariant-loop-seats g l = (i : ℕ) → flat (slice_get l.seats.items i) ≡ flat (slice_get l.fn.seats.items i)

abbrev pub decreases-loop-seats : goal.decreases-loop-seats
decreases-loop-seats g l = (l.at + 1) - vec_len l.seats
