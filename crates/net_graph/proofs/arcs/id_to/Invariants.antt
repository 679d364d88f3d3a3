use Rattle.std.proofs.Common.{◌≡◌, None, eqb, take}
use Rattle.std.specs.List.{find}
use Rattle.net_graph.specs.declared.arcs.KeptArc.{KeptArc}
use Rattle.net_graph.proofs.arcs.id_to.Given as goal

-- none of the arcs so far goes to the head
abbrev pub invariant-loop-arc : goal.invariant-loop-arc
invariant-loop-arc l = find (λ (a : KeptArc). eqb a.head.0 l.head.0) (take l.arc-index l.arcs) ≡ None
