use Rattle.std.proofs.Common.{◌≡◌, ◌+◌, ◌++◌, length, map}
use Rattle.weave.specs.declared.seat.Seat.{Seat}
use Rattle.weave.specs.Queued.{logs_from}
use Rattle.weave.proofs.queued.apart.Given as goal

-- the nodes and logs so far, and those of the seats that are left, are all
abbrev pub invariant-loop-seat : goal.invariant-loop-seat
invariant-loop-seat g l =
    record {
      all_nodes : l.nodes ++ map (λ (seat : Seat _ _). seat.node) l.left.items ≡ map (λ (seat : Seat _ _). seat.node) l.fn.seats.items;
      all_logs : l.logs ++ logs_from l.number l.left.items ≡ logs_from 0 l.fn.seats.items;
      count : l.number + length l.left.items ≡ length l.fn.seats.items;
    }

abbrev pub decreases-loop-seat : goal.decreases-loop-seat
decreases-loop-seat g l = length l.left.items
