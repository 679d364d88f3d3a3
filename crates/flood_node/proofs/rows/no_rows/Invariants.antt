use Rattle.std.proofs.Common.{◌≡◌, None, map, replicate}
use Rattle.std.specs.Prelude.{option_map}
use Rattle.net_graph.specs.Views.{pure_row}
use Rattle.flood_node.proofs.rows.no_rows.Given as goal

-- no row so far
abbrev pub invariant-loop-made : goal.invariant-loop-made
invariant-loop-made l = map (option_map pure_row) l.found.items ≡ replicate l._made None
