use Rattle.raml_syntax.proofs.OneFault.{no_text_fault}
use Rattle.raml_syntax.proofs.laws.no_fault_beside_an_algebra.Goals as goal

pub returns : goal.returns
returns c = no_text_fault
