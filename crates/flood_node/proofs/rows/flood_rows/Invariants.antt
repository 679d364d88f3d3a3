use Rattle.flood_node.specs.FoundRows.{found_rows}
use Rattle.flood_node.specs.Rows.{AreAllFound}
use Rattle.flood_node.proofs.rows.flood_rows.Given as goal

-- the rows of the leaders so far
abbrev pub invariant-loop-leader : goal.invariant-loop-leader
invariant-loop-leader g l = AreAllFound l.fn.net l.fn.nodes l.leaders.items l.leader l.leader 0 (found_rows l.found.items)
