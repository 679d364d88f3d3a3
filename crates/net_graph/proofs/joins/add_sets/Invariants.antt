use Rattle.std.proofs.Common.{◌≡◌, ℕ, length}
use Rattle.net_graph.specs.Joins.{is_joined}
use Rattle.net_graph.proofs.joins.add_sets.Given as goal

-- the same nodes are joined
abbrev pub invariant-loop-made : goal.invariant-loop-made
invariant-loop-made l = record {
  count : length l.sets.items ≡ l._made;
  same : (i k : ℕ) → is_joined l.sets.items i k ≡ is_joined l.fn.sets.items i k;
}
