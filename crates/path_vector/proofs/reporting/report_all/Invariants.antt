use Rattle.std.proofs.Common.{◌≡◌, ◌≤◌, length, map, take, vec_len}
use Rattle.std.specs.Vec.{vec_capacity}
use Rattle.meta_base.specs.declared.ids.ArcId.{ArcId}
use Rattle.path_vector.specs.Updates.{noted, pure_update}
use Rattle.path_vector.proofs.reporting.report_all.Given as goal

-- it was reported on the arcs so far
abbrev pub invariant-loop-arc : goal.invariant-loop-arc
invariant-loop-arc l = record {
  reported : map noted l.out.items ≡ map (λ (a : ArcId). (a.0, pure_update l.fn.update)) (take l.arc-index l.others);
  count : vec_len l.out ≡ l.arc-index;
  room : length l.arcs ≤ vec_capacity l.out;
}
