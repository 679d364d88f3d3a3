use Rattle.path_vector.specs.Laws.{new_nodes_may_begin}
use Rattle.path_vector.proofs.laws.new_nodes_may_begin.Goals as goal

pub returns : goal.returns
returns c = new_nodes_may_begin
