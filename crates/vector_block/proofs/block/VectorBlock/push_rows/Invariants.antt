use Rattle.std.proofs.Common.{◌≡◌, ◌++◌, map}
use Rattle.std.specs.List.{range_with_len}
use Rattle.net_graph.specs.Views.{pure_row}
use Rattle.vector_block.specs.Blocks.{at_place}
use Rattle.vector_block.proofs.block.VectorBlock.push_rows.Given as goal

-- the rows of the nodes so far
abbrev pub invariant-loop-node : goal.invariant-loop-node
invariant-loop-node g l =
    map pure_row l.rows.items ≡ map pure_row l.fn.rows.items ++ map (λ node. record { node = node; dest = l.dest.0; route = at_place l.self.rows node l.dest.0 }) (range_with_len 0 l.node)
