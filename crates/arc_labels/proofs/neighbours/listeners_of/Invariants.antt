use Rattle.std.proofs.Common.{◌≡◌, ℕ, Some, vec_len, slice_get}
use Rattle.net_graph.specs.Nets.{PureArc, arcs_to}
use Rattle.arc_labels.specs.declared.neighbours.Neighbour.{Neighbour}
use Rattle.arc_labels.specs.Neighbours.{IsNeighbour, tail_of}
use Rattle.arc_labels.proofs.neighbours.listeners_of.Given as goal

-- the neighbours so far
abbrev pub invariant-loop-id : goal.invariant-loop-id
invariant-loop-id g l = record {
  count : vec_len l.listeners ≡ l.id-index;
  each : (k : ℕ) (neighbour : Neighbour g.row.A-Lab.Denot) → slice_get l.listeners.items k ≡ Some neighbour → (arc : PureArc) → slice_get (arcs_to l.net l.fn.node.0) k ≡ Some arc → IsNeighbour (g.A.Algebra.stands_for l._algebra) tail_of arc neighbour;
}
