use Rattle.alg_model.specs.Bounds.{greatest_number}
use Rattle.sig_text.proofs.RoundTrips.{edition_room, value_round}
use Rattle.sig_text.proofs.laws.printed_values_are_read_back.Goals as goal

pub returns : goal.returns
returns c = λ a. value_round (greatest_number a.edition) (edition_room a.edition) a.expression
