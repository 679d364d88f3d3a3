use Rattle.raml_syntax.proofs.Formed.{text_is_alg}
use Rattle.raml_syntax.proofs.laws.texts_mean_algebras.Goals as goal

pub returns : goal.returns
returns c = text_is_alg
