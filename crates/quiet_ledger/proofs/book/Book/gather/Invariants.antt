use Rattle.std.proofs.Common.{◌≡◌, ◌+◌, ◌*◌, ◌≤◌, take}
use Rattle.std.specs.Prelude.{sum_by}
use Rattle.quiet_ledger.specs.declared.book.TheConstants.{MAX_BASE, MAX_SHARE}
use Rattle.quiet_ledger.specs.Ledger.{sent_by, taken_by}
use Rattle.quiet_ledger.proofs.book.Book.gather.Given as goal

-- the sums over the shares so far, and bounds on them
abbrev pub invariant-loop-share : goal.invariant-loop-share
invariant-loop-share l =
    record {
      sent : l.totals.sent ≡ l.fn.book.base.sent + sum_by sent_by (take l.share-index l.shares);
      taken : l.totals.taken ≡ l.fn.book.base.taken + sum_by taken_by (take l.share-index l.shares);
      sent_bound : l.totals.sent ≤ MAX_BASE + l.share-index * MAX_SHARE;
      taken_bound : l.totals.taken ≤ MAX_BASE + l.share-index * MAX_SHARE;
    }
