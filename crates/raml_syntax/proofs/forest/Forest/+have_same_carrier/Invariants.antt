use Rattle.std.proofs.Common.{◌+◌}
use Rattle.raml_syntax.proofs.forest.Forest.+have_same_carrier.Given as goal

abbrev pub decreases-have_same_carrier : goal.decreases-have_same_carrier
decreases-have_same_carrier l = l.a.number + l.b.number
