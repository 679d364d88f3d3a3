use Rattle.std.proofs.Common.{◌≡◌, ◌+◌, ◌≤◌, length}
use Rattle.link_queues.specs.Links.{sent_on, outbox_of, spare_of, free_slots, out_link}
use Rattle.link_queues.proofs.out_end.OutEnd.flush.Given as goal

-- nothing is lost on the way from the outbox to the ring
abbrev pub invariant-loop-self : goal.invariant-loop-self
invariant-loop-self g l =
    record {
      sent : sent_on l.self ≡ sent_on l.initial.self;
      slots : free_slots l.initial.self + length (outbox_of l.self) ≤ free_slots l.self + length (outbox_of l.initial.self);
      spare : spare_of l.initial.self ≤ spare_of l.self;
      link : out_link l.self ≡ out_link l.initial.self;
    }

abbrev pub decreases-loop-self : goal.decreases-loop-self
decreases-loop-self g l = length (outbox_of l.self)
