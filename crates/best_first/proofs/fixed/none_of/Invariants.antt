use Rattle.std.proofs.Common.{◌≡◌, ◌≤◌, None, replicate, vec_len, vec_capacity}
use Rattle.best_first.proofs.fixed.none_of.Given as goal

abbrev pub invariant-loop-made : goal.invariant-loop-made
invariant-loop-made g l = record {
  items : l.places.items ≡ replicate l._made None;
  len : vec_len l.places ≡ l._made;
  room : l.count ≤ vec_capacity l.places;
}
