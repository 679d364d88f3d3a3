-- What a contract sees of a book and of its shares.
use Rattle.std.specs.Prelude.{ℕ}
use Rattle.quiet_ledger.specs.declared.totals.Totals.{Totals}
use Rattle.quiet_ledger.specs.declared.book.Share.{Share}
use Rattle.quiet_ledger.specs.declared.book.Book.{Book}

-- how many updates the share's worker sent
abbrev pub sent_by : Share → ℕ
sent_by share = share.sent

-- how many updates the share's worker took
abbrev pub taken_by : Share → ℕ
taken_by share = share.taken

-- what was counted before the book was made
abbrev pub base_of : Book → Totals
base_of book = book.base

-- how many shares the book was made with
abbrev pub workers_of : Book → ℕ
workers_of book = book.workers
