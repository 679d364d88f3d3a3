use Rattle.std.proofs.Common.{◌≡◌, ℕ, None, length}
use Rattle.path_vector.specs.Known.{entry_of}
use Rattle.path_vector.proofs.heard.no_entries.Given as goal

-- no entry so far
abbrev pub invariant-loop-dest : goal.invariant-loop-dest
invariant-loop-dest g l = record {
  count : length l.entries.items ≡ l._dest;
  none : (dest : ℕ) → entry_of l.entries.items dest ≡ None;
}
