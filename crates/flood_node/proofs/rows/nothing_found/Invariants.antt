use Rattle.std.proofs.Common.{◌≡◌, None, length, replicate}
use Rattle.flood_node.specs.FoundRows.{found_rows}
use Rattle.flood_node.proofs.rows.nothing_found.Given as goal

-- the places for the destinations so far
abbrev pub invariant-loop-made : goal.invariant-loop-made
invariant-loop-made l = found_rows l.found.items ≡ replicate l._made (replicate (length l.fn.nodes) None)
