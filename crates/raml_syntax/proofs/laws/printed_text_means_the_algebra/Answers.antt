use Rattle.raml_syntax.proofs.PrintedTrees.{printed_means}
use Rattle.raml_syntax.proofs.laws.printed_text_means_the_algebra.Goals as goal

pub returns : goal.returns
returns c = printed_means
