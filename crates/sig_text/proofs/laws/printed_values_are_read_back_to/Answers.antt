use Rattle.sig_text.proofs.RoundTrips.{value_round}
use Rattle.sig_text.proofs.laws.printed_values_are_read_back_to.Goals as goal

pub returns : goal.returns
returns c = λ greatest a v low high. value_round greatest (low, high) a v
