use Rattle.flood_node.specs.FoundRows.{found_rows}
use Rattle.flood_node.specs.Rows.{AreAllPlaced}
use Rattle.flood_node.proofs.rows.place_tables.Given as goal

-- the rows of the destinations so far were placed
abbrev pub invariant-loop-dest : goal.invariant-loop-dest
invariant-loop-dest g l = AreAllPlaced l.fn.reported l.fn.leaders l.leader l.dest (found_rows l.fn.found.items) (found_rows l.found.items)
