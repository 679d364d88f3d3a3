use Rattle.std.proofs.Common.{◌≡◌, ◌<◌, ℕ, Some, slice_get, true}
use Rattle.net_graph.specs.Nets.{PureArc, arcs_from}
use Rattle.path_vector.specs.Alike.{is_alike}
use Rattle.path_vector.proofs.same_arcs.has_arcs_alike.Given as goal

-- the arcs so far are alike
abbrev pub invariant-loop-place : goal.invariant-loop-place
invariant-loop-place l = (k : ℕ) (a b : PureArc) → k < l.place → slice_get (arcs_from l.fn.before l.fn.node.0) k ≡ Some a → slice_get (arcs_from l.fn.net l.fn.node.0) k ≡ Some b → is_alike a b ≡ true
