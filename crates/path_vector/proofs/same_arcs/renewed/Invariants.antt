use Rattle.std.proofs.Common.{◌≡◌, ◌<◌, ◌≤◌, ℕ, Some, length, slice_get}
use Rattle.net_graph.specs.Nets.{PureArc, arcs_from}
use Rattle.path_vector.specs.Alike.{IsRenewed}
use Rattle.path_vector.specs.Known.{Listened}
use Rattle.path_vector.proofs.same_arcs.renewed.Given as goal

-- the neighbours so far are at their new arcs, and those after them are as they were
abbrev pub invariant-loop-place : goal.invariant-loop-place
invariant-loop-place g l = record {
  count : length l.neighbours ≡ length l.fn.neighbours;
  done : (k : ℕ) (a : PureArc) (n m : Listened _ _) → k < l.place → slice_get (arcs_from l.fn.net l.fn.node.0) k ≡ Some a → slice_get l.fn.neighbours k ≡ Some n → slice_get l.neighbours k ≡ Some m → IsRenewed a n m;
  left : (k : ℕ) → l.place ≤ k → slice_get l.neighbours k ≡ slice_get l.fn.neighbours k;
}
