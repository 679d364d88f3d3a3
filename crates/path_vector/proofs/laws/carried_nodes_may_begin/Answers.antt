use Rattle.path_vector.specs.Laws.{carried_nodes_may_begin}
use Rattle.path_vector.proofs.laws.carried_nodes_may_begin.Goals as goal

pub returns : goal.returns
returns c = carried_nodes_may_begin
