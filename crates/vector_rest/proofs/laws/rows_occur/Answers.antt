use Rattle.std.specs.Prelude.{length}
use Rattle.vector_rest.specs.Reached.{start_values}
use Rattle.vector_rest.specs.ReachedLaws.{reached_in, start_in}
use Rattle.vector_rest.specs.OnceLaws.{reached_apart}
use Rattle.vector_rest.specs.MachineReads.{rows_occur}
use Rattle.vector_rest.proofs.laws.rows_occur.Goals as goal

pub returns-clause-once : goal.returns-clause-once
returns-clause-once c net start dest = reached_apart net (start_values net start dest) (length net.nodes)

pub returns-clause-carrier : goal.returns-clause-carrier
returns-clause-carrier c net start dest v is_net coherent there = reached_in net (start_values net start dest) is_net (start_in net is_net start coherent dest) (length net.nodes) v there

pub returns-clause-rows : goal.returns-clause-rows
returns-clause-rows c net start machine journal i dest s r is_net coherent e node is_row = rows_occur net is_net start coherent journal machine e i dest s r node is_row
