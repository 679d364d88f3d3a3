use Rattle.std.proofs.Common.{◌≡◌, ◌≤◌, ◌++◌, length}
use Rattle.std.specs.Vec.Iter.{into_iter_items}
use Rattle.link_queues.specs.Links.{out_link, sent_on, spare_of}
use Rattle.weave.proofs.links.linked.Given as goal

-- with the messages that are left all are sent, and there is room for those
abbrev pub invariant-loop-message : goal.invariant-loop-message
invariant-loop-message g l =
    record {
      link : out_link l.out ≡ out_link l.initial.out;
      sent : sent_on l.out ++ into_iter_items l.message-iterator ≡ l.fn.waits;
      room : length (into_iter_items l.message-iterator) ≤ spare_of l.out;
    }
