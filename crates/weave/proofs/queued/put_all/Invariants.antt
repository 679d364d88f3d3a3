use Rattle.std.proofs.Common.{◌≡◌, ◌++◌, length}
use Rattle.weave.proofs.queued.put_all.Given as goal

-- what was put and what is left are all
abbrev pub invariant-loop-sent : goal.invariant-loop-sent
invariant-loop-sent g l = l.queue.items ++ l.left.items ≡ l.fn.queue.items ++ l.fn.outbox

abbrev pub decreases-loop-sent : goal.decreases-loop-sent
decreases-loop-sent g l = length l.left.items
