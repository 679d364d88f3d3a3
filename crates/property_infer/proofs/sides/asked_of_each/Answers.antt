use Rattle.std.proofs.Common.{sym, ◌∙◌}
use Rattle.property_infer.proofs.Ways.{by_first_side, each_by_second_side}
use Rattle.property_infer.proofs.sides.asked_of_each.Goals as goal

pub returns-then-has : goal.returns-then-has
returns-then-has c =
    each_by_second_side c.args.x c.args.y c.args.fact c.profile.result c.requires.each c.profile.ensures (sym c.has.ensures ∙ c.if-has.true)

pub returns-else-has : goal.returns-else-has
returns-else-has c = by_first_side c.args.x c.args.y c.args.fact c.profile.result c.profile.ensures (sym c.has.ensures ∙ c.if-has.false)
