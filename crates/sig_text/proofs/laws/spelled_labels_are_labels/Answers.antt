use Rattle.alg_model.specs.Bounds.{greatest_number}
use Rattle.sig_text.proofs.MeantLabels.{label_member}
use Rattle.sig_text.proofs.laws.spelled_labels_are_labels.Goals as goal

pub returns : goal.returns
returns c = λ a text l t. let m = label_member (greatest_number a.edition) a.expression text l t in (m.is_label, m.small)
