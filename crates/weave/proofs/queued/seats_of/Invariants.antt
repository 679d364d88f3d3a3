use Rattle.std.proofs.Common.{◌≡◌, ◌++◌, length, map}
use Rattle.weave.specs.Queued.{fresh_seat}
use Rattle.weave.proofs.queued.seats_of.Given as goal

-- the seats and those of the nodes that are left are all
abbrev pub invariant-loop-node : goal.invariant-loop-node
invariant-loop-node g l = l.seats.items ++ map fresh_seat l.left.items ≡ map fresh_seat l.fn.nodes

abbrev pub decreases-loop-node : goal.decreases-loop-node
decreases-loop-node g l = length l.left.items
