use Rattle.std.proofs.Common.{◌≡◌, length, All}
use Rattle.quiet_ledger.specs.Ledger.{sent_by, taken_by}
use Rattle.quiet_ledger.proofs.book.Book.new.Given as goal

-- as many shares as were made, each with nothing in it
abbrev pub invariant-loop : goal.invariant-loop
invariant-loop l =
    record {
      shares : length l.shares ≡ l.counter;
      zero : All (λ share. (sent_by share ≡ 0) × (taken_by share ≡ 0)) l.shares;
    }
