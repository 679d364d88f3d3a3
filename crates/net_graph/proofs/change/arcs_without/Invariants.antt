use Rattle.std.proofs.Common.{◌≡◌, ◌≤◌, take, vec_len}
use Rattle.net_graph.specs.Kept.{kept_without}
use Rattle.net_graph.proofs.change.arcs_without.Given as goal

-- the arcs so far but that one were copied
abbrev pub invariant-loop-arc : goal.invariant-loop-arc
invariant-loop-arc l = record {
  arcs : l.made.items ≡ kept_without l.tail.0 l.head.0 (take l.arc-index l.arcs);
  few : vec_len l.made ≤ l.arc-index;
}
