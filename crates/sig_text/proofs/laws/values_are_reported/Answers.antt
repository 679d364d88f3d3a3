use Rattle.sig_text.proofs.Meant.{value_states}
use Rattle.sig_text.proofs.laws.values_are_reported.Goals as goal

pub returns : goal.returns
returns c = value_states
