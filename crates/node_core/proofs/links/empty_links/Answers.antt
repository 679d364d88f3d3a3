use Rattle.std.proofs.Common.{◌+◌, ◌∙◌, ap}
use Rattle.node_core.specs.Configs.{waits_on}
use Rattle.node_core.proofs.LinkLemmas.{waits_push}
use Rattle.node_core.proofs.links.empty_links.Goals as goal

pub loop-made-preserved : goal.loop-made-preserved
loop-made-preserved g c =
    record {
      count = c.in_ok-push.ensures.len ∙ ap (λ n. n + 1) c.loop-made.invariant.count;
      empty = λ b. ap (λ links. waits_on links b) c.in_ok-push.ensures.items ∙ waits_push c.loop-made.links.items c.new.result b c.loop-made.invariant.empty c.new.ensures.items;
    }
