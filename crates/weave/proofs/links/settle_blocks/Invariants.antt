use Rattle.std.proofs.Common.{◌≡◌, vec_len}
use Rattle.weave.specs.Arcs.{AreDoneBelow, LosesLink}
use Rattle.weave.specs.Gathered.{view_at}
use Rattle.weave.proofs.links.settle_blocks.Given as goal

-- the arcs so far lost their links
abbrev pub invariant-loop-number : goal.invariant-loop-number
invariant-loop-number g l =
    record {
      count : vec_len l.blocks ≡ vec_len l.fn.blocks;
      done : AreDoneBelow LosesLink l.net (vec_len l.fn.blocks) l.number (view_at g.N.NodeCore.state g.N.NodeCore.note l.fn.blocks.items) (view_at g.N.NodeCore.state g.N.NodeCore.note l.blocks.items);
    }
