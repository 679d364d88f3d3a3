use Rattle.std.proofs.Common.{◌≡◌, map, take}
use Rattle.net_graph.specs.Kept.{kept_with}
use Rattle.net_graph.proofs.change.arcs_with_label.Given as goal

-- the arcs so far were relabelled
abbrev pub invariant-loop-arc : goal.invariant-loop-arc
invariant-loop-arc l = l.made.items ≡ map (kept_with l.tail.0 l.head.0 l.label) (take l.arc-index l.arcs)
