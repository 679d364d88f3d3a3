use Rattle.std.proofs.Common.{◌≡◌, map, vec_len}
use Rattle.node_core.specs.Configs.{noted}
use Rattle.weave.specs.Between.{IsPut}
use Rattle.weave.specs.Gathered.{AreGathered, view_at}
use Rattle.weave.proofs.between.put_all.Given as goal

-- the messages so far were put on their arcs
abbrev pub invariant-loop-arc : goal.invariant-loop-arc
invariant-loop-arc g l =
    let k = g.N.NodeCore in
    let n = vec_len l.fn.blocks in
    record {
      count : vec_len l.blocks ≡ n;
      gathered : AreGathered l.net n (view_at k.state k.note l.blocks.items);
      put : IsPut l.net n (map (noted k.note) l.yielded) (view_at k.state k.note l.fn.blocks.items) (view_at k.state k.note l.blocks.items);
    }
