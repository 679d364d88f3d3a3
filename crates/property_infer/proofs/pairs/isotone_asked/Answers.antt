use Rattle.std.proofs.lemmas.Bool.{not-true, not-false}
use Rattle.property_infer.proofs.Ways.{isotone_by_first, isotone_by_second, isotone_by_split, isotone_by_ties}
use Rattle.property_infer.proofs.pairs.isotone_asked.Goals as goal

pub returns-then-not-profile : goal.returns-then-not-profile
returns-then-not-profile c = isotone_by_first c.args.x c.args.y c.profile.result c.profile.ensures (not-true c.profile.result.iso c.if-not-profile.true)

pub returns-then-not-second : goal.returns-then-not-second
returns-then-not-second c =
    isotone_by_second c.requires.first.0 c.args.x c.args.y c.profile-second.result c.requires.first.1 c.profile-second.ensures (not-true c.profile-second.result.iso c.if-not-second.true)

pub returns-then-not-second-2 : goal.returns-then-not-second-2
returns-then-not-second-2 c =
    isotone_by_split c.requires.first.0 c.args.x c.args.y c.profile.result c.profile-second.result c.requires.first.1 c.profile.ensures c.profile-second.ensures
    (not-false c.profile.result.iso c.if-not-profile.false) (not-false c.profile-second.result.iso c.if-not-second.false) (not-true c.profile-second.result.total c.if-not-second-2.true)

pub returns-else-not-second-2 : goal.returns-else-not-second-2
returns-else-not-second-2 c =
    isotone_by_ties c.requires.first.0 c.args.x c.args.y c.profile.result c.profile-second.result c.requires.first.1 c.profile.ensures c.profile-second.ensures
    (not-false c.profile.result.iso c.if-not-profile.false) (not-false c.profile-second.result.iso c.if-not-second.false) (not-false c.profile-second.result.total c.if-not-second-2.false)
