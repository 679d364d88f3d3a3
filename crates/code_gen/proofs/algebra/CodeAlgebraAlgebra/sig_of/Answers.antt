use Rattle.std.proofs.Common.{◌≡◌, rules}
use Rattle.alg_model.specs.Carriers.{carrier_of}
use Rattle.alg_model.specs.Views.{pure_value}
use Rattle.code_gen.specs.Encoding.{Enc}
use Rattle.code_gen.proofs.Acting.{decodes_to}
use Rattle.code_gen.proofs.algebra.CodeAlgebraAlgebra.sig_of.Goals as goal

pub returns-clause-value : goal.returns-clause-value
returns-clause-value g c =
    let words : Enc (pure_value c.args.value.now) ≡ g.W.HeldRow.held c.of.result = search rules in
    decodes_to (carrier_of c.args.self.now.alg.now.expression) (pure_value c.args.value.now) (g.W.HeldRow.held c.of.result) c.requires words
