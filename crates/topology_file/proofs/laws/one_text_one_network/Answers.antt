use Rattle.topology_file.proofs.Runs.{one_outcome}
use Rattle.topology_file.proofs.laws.one_text_one_network.Goals as goal

pub returns : goal.returns
returns c = one_outcome c.texts_have_one_spelling.ensures.is c.texts_have_one_spelling.ensures.only
