use Rattle.std.proofs.Common.{◌≡◌, map}
use Rattle.std.specs.List.{range_with_len}
use Rattle.net_graph.specs.Views.{pure_row}
use Rattle.path_vector.specs.Node.{rows_for}
use Rattle.vector_block.specs.Blocks.{states_of}
use Rattle.vector_block.proofs.block.VectorBlock.rows.Given as goal

-- the rows for the destinations so far
abbrev pub invariant-loop-dest : goal.invariant-loop-dest
invariant-loop-dest g l = map pure_row l.rows.items ≡ rows_for (states_of l.fn.self) (range_with_len 0 l.dest)
