use Rattle.property_infer.specs.Views.{pure_verdict}
use Rattle.wedge_nets.proofs.Instances.{can_print}
use Rattle.wedge_nets.proofs.lines.push_comment.Goals as goal

pub verdict_line-requires : goal.verdict_line-requires
verdict_line-requires c = can_print c.args.alg.now (pure_verdict c.args.verdict.now) c.requires
