use Rattle.std.proofs.Common.{sym, ◌∙◌}
use Rattle.property_infer.proofs.Ways.{by_first_side, by_second_side, by_both_sides}
use Rattle.property_infer.proofs.sides.asked_of_all.Goals as goal

pub returns-then-not-has : goal.returns-then-not-has
returns-then-not-has c = by_first_side c.args.x c.args.y c.args.fact c.profile.result c.profile.ensures (sym c.has.ensures ∙ c.if-not-has.true)

pub returns-then-not-has-2 : goal.returns-then-not-has-2
returns-then-not-has-2 c =
    by_second_side c.args.x c.args.y c.args.fact c.profile-else-not-has.result c.profile-else-not-has.ensures (sym c.has-else-not-has.ensures ∙ c.if-not-has-2.true)

pub returns-else-not-has-2 : goal.returns-else-not-has-2
returns-else-not-has-2 c =
    by_both_sides c.args.x c.args.y c.args.fact c.args.between c.profile.result c.profile-else-not-has.result c.requires.across c.profile.ensures c.profile-else-not-has.ensures
    (sym c.has.ensures ∙ c.if-not-has.false) (sym c.has-else-not-has.ensures ∙ c.if-not-has-2.false)
