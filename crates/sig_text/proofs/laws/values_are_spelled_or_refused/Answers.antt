use Rattle.alg_model.specs.Bounds.{greatest_number}
use Rattle.sig_text.specs.Literals.{ValueText, IsValueFault}
use Rattle.sig_text.specs.Spelled.{spelled_value_to}
use Rattle.sig_text.proofs.Meant.{stated_always, value_states}
use Rattle.sig_text.proofs.laws.values_are_spelled_or_refused.Goals as goal

pub returns : goal.returns
returns c = λ a text. stated_always (spelled_value_to (greatest_number a.edition) a.expression text) (ValueText a text) (IsValueFault a text) (value_states (greatest_number a.edition) a.expression text)
