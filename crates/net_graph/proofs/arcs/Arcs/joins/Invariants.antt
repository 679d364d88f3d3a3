use Rattle.std.proofs.Common.{take}
use Rattle.net_graph.specs.Joins.{AreJoinedBy}
use Rattle.net_graph.proofs.arcs.Arcs.joins.Given as goal

-- the nodes of the arcs so far are joined
abbrev pub invariant-loop-arc : goal.invariant-loop-arc
invariant-loop-arc l = AreJoinedBy l.joins (take l.arc-index l.self)
