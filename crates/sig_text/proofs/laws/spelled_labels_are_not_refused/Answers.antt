use Rattle.alg_model.specs.Bounds.{greatest_number}
use Rattle.sig_text.specs.Literals.{LabelText, IsLabelFault}
use Rattle.sig_text.specs.Spelled.{spelled_label_to}
use Rattle.sig_text.proofs.Meant.{stated_apart}
use Rattle.sig_text.proofs.MeantLabels.{label_states}
use Rattle.sig_text.proofs.laws.spelled_labels_are_not_refused.Goals as goal

pub returns : goal.returns
returns c = λ a text. stated_apart (spelled_label_to (greatest_number a.edition) a.expression text) (LabelText a text) (IsLabelFault a text) (label_states (greatest_number a.edition) a.expression text)
