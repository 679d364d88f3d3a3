use Rattle.property_infer.proofs.Ways.{worse_by_first, worse_by_second}
use Rattle.property_infer.proofs.pairs.worse_asked.Goals as goal

pub returns-then-profile : goal.returns-then-profile
returns-then-profile c =
    worse_by_second c.requires.first.0 c.args.x c.args.y c.args.fact c.profile.result c.requires.worse c.requires.first.1 c.profile.ensures c.if-profile.true

pub returns-else-profile : goal.returns-else-profile
returns-else-profile c =
    worse_by_first c.requires.first.0 c.args.x c.args.y c.args.fact c.profile.result c.requires.worse c.requires.first.1 c.profile.ensures c.if-profile.false
