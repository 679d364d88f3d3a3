use Rattle.std.proofs.Common.{◌≡◌, ◌++◌, length}
use Rattle.rtrb.specs.Ring.{known_items}
use Rattle.link_queues.proofs.pair.drain_ring.Given as goal

-- what was moved, followed by what is left, stays
abbrev pub invariant-loop-waiting : goal.invariant-loop-waiting
invariant-loop-waiting g l = l.waiting ++ known_items l.consumer ≡ l.initial.waiting ++ known_items l.initial.consumer

abbrev pub decreases-loop-waiting : goal.decreases-loop-waiting
decreases-loop-waiting g l = length (known_items l.consumer)
