use Rattle.raml_syntax.proofs.Files.{one_text}
use Rattle.raml_syntax.proofs.laws.one_text_one_algebra.Goals as goal

pub returns : goal.returns
returns c = one_text
