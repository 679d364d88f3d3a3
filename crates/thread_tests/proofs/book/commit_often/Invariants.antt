use Rattle.std.proofs.Common.{◌≡◌}
use Rattle.quiet_ledger.specs.Ledger.{sent_by, taken_by}
use Rattle.thread_tests.proofs.book.commit_often.Given as goal

-- one and one were committed in each turn
abbrev pub invariant-loop : goal.invariant-loop
invariant-loop g l = (sent_by l.share ≡ l.counter) × (taken_by l.share ≡ l.counter)
