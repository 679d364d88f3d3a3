use Rattle.std.proofs.Common.{◌≡◌, ◌+◌, ◌++◌, length}
use Rattle.weave.specs.Queued.{queue_from}
use Rattle.weave.proofs.queued.queue_of.Given as goal

-- what was put and what the other links have are all
abbrev pub invariant-loop-link : goal.invariant-loop-link
invariant-loop-link g l =
    record {
      all : l.queue.items ++ queue_from l.number l.left.items ≡ queue_from 0 l.fn.links.items;
      count : l.number + length l.left.items ≡ length l.fn.links.items;
    }

abbrev pub decreases-loop-link : goal.decreases-loop-link
decreases-loop-link g l = length l.left.items
