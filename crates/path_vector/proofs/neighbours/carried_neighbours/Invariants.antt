use Rattle.std.proofs.Common.{◌≡◌, ℕ, ◌≤◌, length, slice_get, take}
use Rattle.net_graph.specs.Nets.{arcs_from}
use Rattle.path_vector.specs.Known.{heard_by, AreNeighbours}
use Rattle.path_vector.specs.Node.{heard_before}
use Rattle.path_vector.proofs.neighbours.carried_neighbours.Given as goal

-- the neighbours have heard what the old ones that are done heard on arcs that are there still
abbrev pub invariant-loop-at : goal.invariant-loop-at
invariant-loop-at g l =
    let A = g.A.Algebra in
    let s = l.fn.algebra in
    let value = A.sig_value s in
    record {
      neighbours : AreNeighbours (A.stands_for s) (A.is_sig s) value l.fn.net (arcs_from l.fn.net l.fn.node.0) l.neighbours;
      heard : (a dest : ℕ) → heard_by value l.neighbours a dest ≡ heard_before l.fn.before l.fn.net (heard_by value (take l.at l.fn.old)) a dest;
      left : (k : ℕ) → l.at ≤ k → slice_get l.old k ≡ slice_get l.fn.old k;
      many : length l.old ≡ length l.fn.old;
    }
