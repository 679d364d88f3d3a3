use Rattle.std.proofs.Common.{◌≡◌, ◌≤◌, length, map, take, vec_len}
use Rattle.std.specs.Vec.{vec_capacity}
use Rattle.meta_base.specs.declared.ids.ArcId.{ArcId}
use Rattle.flood_node.specs.Views.{noted, pure_flooded}
use Rattle.flood_node.proofs.telling.tell_all.Given as goal

-- it was sent on the arcs so far
abbrev pub invariant-loop-arc : goal.invariant-loop-arc
invariant-loop-arc l = record {
  reported : map noted l.out.items ≡ map (λ (a : ArcId). (a.0, pure_flooded l.fn.message)) (take l.arc-index l.others);
  count : vec_len l.out ≡ l.arc-index;
  room : length l.arcs ≤ vec_capacity l.out;
}
