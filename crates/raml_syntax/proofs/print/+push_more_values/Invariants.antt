use Rattle.std.proofs.Common.{length}
use Rattle.raml_syntax.proofs.print.+push_more_values.Given as goal

abbrev pub decreases-push_more_values : goal.decreases-push_more_values
decreases-push_more_values l = length l.names.now
