use Rattle.std.proofs.Common.{◌≡◌, ℕ, None, length}
use Rattle.distance_node.specs.Chosen.{entry_of}
use Rattle.distance_node.proofs.node.no_entries.Given as goal

-- no entry so far
abbrev pub invariant-loop-entry : goal.invariant-loop-entry
invariant-loop-entry g l = record {
  count : length l.entries.items ≡ l._entry;
  none : (k : ℕ) → entry_of l.entries.items k ≡ None;
}
