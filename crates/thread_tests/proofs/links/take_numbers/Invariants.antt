use Rattle.std.proofs.Common.{◌≡◌, ◌<◌}
use Rattle.link_queues.specs.Links.{in_link}
use Rattle.thread_tests.proofs.links.take_numbers.Given as goal

abbrev pub invariant-loop : goal.invariant-loop
invariant-loop l = (in_link l.into ≡ in_link l.fn.into) × (l.next < 1000)
