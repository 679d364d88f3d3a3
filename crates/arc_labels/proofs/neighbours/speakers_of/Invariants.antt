use Rattle.std.proofs.Common.{◌≡◌, ℕ, Some, vec_len, slice_get}
use Rattle.net_graph.specs.Nets.{PureArc, arcs_from}
use Rattle.arc_labels.specs.declared.neighbours.Neighbour.{Neighbour}
use Rattle.arc_labels.specs.Neighbours.{IsNeighbour, head_of}
use Rattle.arc_labels.proofs.neighbours.speakers_of.Given as goal

-- the neighbours so far
abbrev pub invariant-loop-place : goal.invariant-loop-place
invariant-loop-place g l = record {
  count : vec_len l.speakers ≡ l.place;
  each : (k : ℕ) (neighbour : Neighbour g.row.A-Lab.Denot) → slice_get l.speakers.items k ≡ Some neighbour → (arc : PureArc) → slice_get (arcs_from l.net l.fn.node.0) k ≡ Some arc → IsNeighbour (g.A.Algebra.stands_for l._algebra) head_of arc neighbour;
}
