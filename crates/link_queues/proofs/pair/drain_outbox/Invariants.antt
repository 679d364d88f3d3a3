use Rattle.std.proofs.Common.{◌≡◌, ◌++◌, length}
use Rattle.link_queues.proofs.pair.drain_outbox.Given as goal

-- what was moved, followed by what is left, stays
abbrev pub invariant-loop-item : goal.invariant-loop-item
invariant-loop-item g l = l.waiting ++ l.outbox.items ≡ l.initial.waiting ++ l.initial.outbox.items

abbrev pub decreases-loop-item : goal.decreases-loop-item
decreases-loop-item g l = length l.outbox.items
