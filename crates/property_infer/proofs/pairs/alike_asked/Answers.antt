use Rattle.std.proofs.Common.{sym, ◌∙◌}
use Rattle.property_infer.proofs.Ways.{alike_by_first, alike_by_second}
use Rattle.property_infer.proofs.pairs.alike_asked.Goals as goal

pub returns-then-has : goal.returns-then-has
returns-then-has c =
    alike_by_second c.requires.first.0 c.args.x c.args.y c.args.fact c.profile.result c.requires.alike c.requires.first.1 c.profile.ensures
    (sym c.has.ensures ∙ c.if-has.true)

pub returns-else-has : goal.returns-else-has
returns-else-has c =
    alike_by_first c.requires.second.0 c.args.x c.args.y c.args.fact c.profile.result c.requires.alike c.requires.second.1 c.profile.ensures
    (sym c.has.ensures ∙ c.if-has.false)
