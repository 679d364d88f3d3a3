use Rattle.std.proofs.Common.{◌≡◌, ◌++◌, length, map}
use Rattle.weave.specs.Queued.{on_its_arc}
use Rattle.weave.proofs.queued.put_link.Given as goal

-- what was put and what is left are all
abbrev pub invariant-loop-message : goal.invariant-loop-message
invariant-loop-message g l = l.queue.items ++ map (on_its_arc l.arc.0) l.left.items ≡ l.fn.queue.items ++ map (on_its_arc l.arc.0) l.fn.link.items

abbrev pub decreases-loop-message : goal.decreases-loop-message
decreases-loop-message g l = length l.left.items
