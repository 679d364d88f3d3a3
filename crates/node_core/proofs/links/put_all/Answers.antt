use Rattle.std.proofs.Common.{◌∙◌}
use Rattle.node_core.specs.Configs.{waits_on}
use Rattle.node_core.proofs.LinkLemmas.{put_more}
use Rattle.node_core.proofs.links.put_all.Goals as goal

pub loop-arc-preserved : goal.loop-arc-preserved
loop-arc-preserved g c =
    record {
      count = c.put.ensures.count ∙ c.loop-arc.invariant.count;
      put = λ b. put_more b c.loop-arc.yielded (c.in-Some.arc, c.in-Some.message) (waits_on c.args.links.now.items b) (waits_on c.loop-arc.links.items b) (waits_on c.put.new.links.items b) (c.loop-arc.invariant.put b) (c.in_ok-put.ensures.put b);
    }
