use Rattle.std.proofs.Common.{◌≡◌, ◌+◌, ◌≤◌, ◌++◌, Some, length, map, take}
use Rattle.std.specs.Prelude.{vec_len, vec_capacity}
use Rattle.meta_base.specs.declared.ids.ArcId.{ArcId}
use Rattle.distance_node.specs.Vectors.{noted}
use Rattle.distance_node.proofs.telling.tell_value.Given as goal

-- it was sent on the arcs so far
abbrev pub invariant-loop-arc : goal.invariant-loop-arc
invariant-loop-arc g l =
    let value = g.A.Algebra.sig_value l.fn.site.algebra.now in
    record {
      reported : map noted l.out.items ≡ map noted l.fn.out.items ++ map (λ (a : ArcId). (a.0, record { dest = l.fn.dest.0; value = Some (value l.fn.sig); stamp = l.fn.clock })) (take l.arc-index l.listeners);
      room : vec_len l.out + length l.listeners ≤ vec_capacity l.out + l.arc-index;
    }
