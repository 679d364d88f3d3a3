use Rattle.std.proofs.Common.{◌≡◌, ℕ, List, Some, vec_len, slice_get}
use Rattle.net_graph.specs.Nets.{arcs_to}
use Rattle.arc_labels.specs.declared.neighbours.Neighbour.{Neighbour}
use Rattle.arc_labels.specs.Neighbours.{AreNeighbours, tail_of}
use Rattle.arc_labels.proofs.neighbours.listener_labels.Given as goal

-- the neighbours of the nodes so far
abbrev pub invariant-loop-node : goal.invariant-loop-node
invariant-loop-node g l = record {
  count : vec_len l.neighbours ≡ l.node;
  each : (i : ℕ) (neighbours : List (Neighbour g.row.A-Lab.Denot)) → slice_get l.neighbours.items i ≡ Some neighbours → AreNeighbours (g.A.Algebra.stands_for l._algebra) tail_of (arcs_to l.net i) neighbours;
}
