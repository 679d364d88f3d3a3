use Rattle.std.proofs.Common.{◌≡◌, ◌+◌, length, vec_len}
use Rattle.std.specs.Vec.Iter.{into_iter_items}
use Rattle.weave.specs.Dealt.{AreSeatedFresh}
use Rattle.weave.specs.Gathered.{view_at}
use Rattle.weave.proofs.dealing.seat_all.Given as goal

-- the nodes so far are seated
abbrev pub invariant-loop-node : goal.invariant-loop-node
invariant-loop-node g l =
    record {
      count : vec_len l.blocks ≡ vec_len l.fn.blocks;
      number : l.number ≡ length l.yielded;
      left : l.number + length (into_iter_items l.node-iterator) ≡ length l.fn.nodes;
      seated : AreSeatedFresh g.N.NodeCore.state (vec_len l.fn.blocks) l.yielded (view_at g.N.NodeCore.state g.N.NodeCore.note l.blocks.items);
    }
