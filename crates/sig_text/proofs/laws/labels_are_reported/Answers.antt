use Rattle.sig_text.proofs.MeantLabels.{label_states}
use Rattle.sig_text.proofs.laws.labels_are_reported.Goals as goal

pub returns : goal.returns
returns c = label_states
