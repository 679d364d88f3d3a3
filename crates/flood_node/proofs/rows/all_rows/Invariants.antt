use Rattle.std.proofs.Common.{length, map}
use Rattle.net_graph.specs.Views.{pure_row}
use Rattle.flood_node.proofs.Joining.{AreJoined}
use Rattle.flood_node.proofs.rows.all_rows.Given as goal

-- the rows of the destinations so far
abbrev pub invariant-loop-table : goal.invariant-loop-table
invariant-loop-table l = AreJoined l.fn.net l.fn.nodes (length l.yielded) (map pure_row l.rows)
