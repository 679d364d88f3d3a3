use Rattle.std.proofs.Common.{◌∙◌, ◌+◌, ap}
use Rattle.weave.specs.Dealt.{IsEmptyView}
use Rattle.weave.proofs.Changing.{views_pushed}
use Rattle.weave.proofs.dealing.empty_blocks.Goals as goal

pub loop-preserved : goal.loop-preserved
loop-preserved g c =
    record {
      count = c.in_ok-push.ensures.len ∙ ap (λ n. n + 1) c.loop.invariant.count;
      empty = views_pushed g.N.NodeCore.state g.N.NodeCore.note IsEmptyView c.loop.blocks.items c.push.new.self.items c.empty_block.result c.in_ok-push.ensures.items c.loop.invariant.empty c.empty_block.ensures;
    }
