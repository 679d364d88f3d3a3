use Rattle.property_infer.proofs.Ways.{total_by_first, total_by_second}
use Rattle.property_infer.proofs.pairs.total_asked.Goals as goal

pub returns-then-profile : goal.returns-then-profile
returns-then-profile c = total_by_second c.args.x c.args.y c.profile.result c.profile.ensures c.if-profile.true

pub returns-else-profile : goal.returns-else-profile
returns-else-profile c = total_by_first c.args.x c.args.y c.profile.result c.profile.ensures c.if-profile.false
