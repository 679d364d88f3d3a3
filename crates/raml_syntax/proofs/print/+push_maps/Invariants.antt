use Rattle.std.proofs.Common.{length}
use Rattle.raml_syntax.proofs.print.+push_maps.Given as goal

abbrev pub decreases-push_maps : goal.decreases-push_maps
decreases-push_maps l = length l.names.now
