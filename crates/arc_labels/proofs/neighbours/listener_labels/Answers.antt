use Rattle.std.proofs.Common.{◌≡◌, ℕ, List, length, arith}
use Rattle.net_graph.specs.Nets.{arcs_to}
use Rattle.arc_labels.specs.declared.neighbours.Neighbour.{Neighbour}
use Rattle.arc_labels.specs.Growing.{each_more}
use Rattle.arc_labels.specs.Neighbours.{AreNeighbours, tail_of}
use Rattle.arc_labels.proofs.neighbours.listener_labels.Goals as goal

pub loop-node-preserved : goal.loop-node-preserved
loop-node-preserved g c =
    let done = c.loop-node.neighbours.items in
    let place : c.loop-node.node ≡ length done = let e = c.loop-node.invariant.count in omega arith in
    let P = λ (i : ℕ) (neighbours : List (Neighbour g.row.A-Lab.Denot)). AreNeighbours (g.A.Algebra.stands_for c.args._algebra.now) tail_of (arcs_to c.args.net.now i) neighbours in
    record {
      count = omega (arith, c.in_ok-push.ensures.len, c.loop-node.invariant.count);
      each = rw c.in_ok-push.ensures.items (each_more P done c.in_ok-listeners_of.field-0 (rw place at c.in_ok-listeners_of.ensures) c.loop-node.invariant.each);
    }
