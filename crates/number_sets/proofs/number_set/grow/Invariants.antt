use Rattle.std.proofs.Common.{◌≡◌, ℕ, length}
use Rattle.number_sets.specs.NumberSets.{has_number}
use Rattle.number_sets.proofs.number_set.grow.Given as goal

-- the words have the numbers that they had
abbrev pub invariant-loop-made : goal.invariant-loop-made
invariant-loop-made l = record {
  count : length l.words.items ≡ l._made;
  same : (i : ℕ) → has_number l.words.items i ≡ has_number l.fn.words.items i;
}
