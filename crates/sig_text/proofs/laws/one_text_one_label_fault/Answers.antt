use Rattle.alg_model.specs.Bounds.{greatest_number}
use Rattle.sig_text.specs.Literals.{LabelText, IsLabelFault}
use Rattle.sig_text.specs.Spelled.{spelled_label_to}
use Rattle.sig_text.proofs.Meant.{stated_one_fault}
use Rattle.sig_text.proofs.MeantLabels.{label_states}
use Rattle.sig_text.proofs.laws.one_text_one_label_fault.Goals as goal

pub returns : goal.returns
returns c = λ a text. stated_one_fault (spelled_label_to (greatest_number a.edition) a.expression text) (LabelText a text) (IsLabelFault a text) (label_states (greatest_number a.edition) a.expression text)
