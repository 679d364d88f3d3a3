use Rattle.std.proofs.Common.{length}
use Rattle.raml_syntax.proofs.print.+push_more_maps.Given as goal

abbrev pub decreases-push_more_maps : goal.decreases-push_more_maps
decreases-push_more_maps l = length l.names.now
