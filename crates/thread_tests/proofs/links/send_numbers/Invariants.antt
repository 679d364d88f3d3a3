use Rattle.std.proofs.Common.{◌≡◌, ◌+◌, ◌≤◌}
use Rattle.link_queues.specs.Links.{spare_of, out_link}
use Rattle.thread_tests.proofs.links.send_numbers.Given as goal

-- there is room for the numbers that are left
abbrev pub invariant-loop-number : goal.invariant-loop-number
invariant-loop-number l = (out_link l.out ≡ out_link l.fn.out) × (1000 ≤ spare_of l.out + l.number)

abbrev pub invariant-loop : goal.invariant-loop
invariant-loop l = out_link l.out ≡ out_link l.fn.out
