use Rattle.std.proofs.Common.{◌≡◌, ◌++◌, Some, map}
use Rattle.std.specs.Prelude.{option_map}
use Rattle.net_graph.specs.Views.{pure_row}
use Rattle.flood_node.proofs.rows.push_rows.Given as goal

-- the rows so far were added
abbrev pub invariant-loop-row : goal.invariant-loop-row
invariant-loop-row l = map Some (map pure_row l.rows) ≡ map Some (map pure_row l.fn.rows) ++ map (option_map pure_row) l.yielded
