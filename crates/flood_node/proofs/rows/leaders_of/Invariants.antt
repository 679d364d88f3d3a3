use Rattle.std.proofs.Common.{take}
use Rattle.flood_node.specs.Rows.{AreLeaders}
use Rattle.flood_node.proofs.rows.leaders_of.Given as goal

-- the leaders of the nodes so far
abbrev pub invariant-loop-place : goal.invariant-loop-place
invariant-loop-place l = AreLeaders (take l.place l.fn.nodes) l.leaders.items
