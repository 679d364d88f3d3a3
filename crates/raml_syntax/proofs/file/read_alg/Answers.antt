use Rattle.alg_model.specs.Views.{expression_of}
use Rattle.raml_syntax.specs.Headers.{alg_in}
use Rattle.raml_syntax.proofs.Formed.{text_is_alg}
use Rattle.raml_syntax.proofs.WholeText.{text_read}
use Rattle.raml_syntax.proofs.file.read_alg.Goals as goal

pub formed-requires : goal.formed-requires
formed-requires c =
    let a = alg_in c.in_ok-edition.edition (expression_of c.in_ok-edition.tree) in
    let text = c.new-tokens.result.rest in
    text_is_alg text a (text_read text a c.read_file.new.tokens c.in_ok-edition.ensures.reads c.in_ok-expect_end.ensures.end)
