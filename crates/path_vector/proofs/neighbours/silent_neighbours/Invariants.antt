use Rattle.std.proofs.Common.{take}
use Rattle.net_graph.specs.Nets.{arcs_from}
use Rattle.path_vector.proofs.Silence.{AreAt}
use Rattle.path_vector.proofs.neighbours.silent_neighbours.Given as goal

-- a neighbour at each of the arcs so far
abbrev pub invariant-loop-place : goal.invariant-loop-place
invariant-loop-place g l = AreAt (g.A.Algebra.stands_for l.fn.algebra) (take l.place (arcs_from l.fn.net l.fn.node.0)) l.neighbours.items
