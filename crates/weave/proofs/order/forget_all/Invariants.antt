use Rattle.std.proofs.Common.{◌≡◌, ℕ, length}
use Rattle.weave.specs.Gathered.{view_at}
use Rattle.weave.proofs.order.forget_all.Given as goal

-- no view changed
abbrev pub invariant-loop-block : goal.invariant-loop-block
invariant-loop-block g l =
    record {
      count : length l.block-items ≡ length l.fn.blocks.items;
      same : (b : ℕ) → view_at g.N.NodeCore.state g.N.NodeCore.note l.block-items b ≡ view_at g.N.NodeCore.state g.N.NodeCore.note l.fn.blocks.items b;
    }
