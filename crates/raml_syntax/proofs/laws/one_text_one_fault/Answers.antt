use Rattle.raml_syntax.proofs.OneFault.{one_fault}
use Rattle.raml_syntax.proofs.laws.one_text_one_fault.Goals as goal

pub returns : goal.returns
returns c = one_fault
