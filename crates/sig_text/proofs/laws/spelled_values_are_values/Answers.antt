use Rattle.alg_model.specs.Bounds.{greatest_number}
use Rattle.sig_text.proofs.Meant.{value_member}
use Rattle.sig_text.proofs.laws.spelled_values_are_values.Goals as goal

pub returns : goal.returns
returns c = λ a text v t. let m = value_member (greatest_number a.edition) a.expression text v t in (m.is_in, m.small)
