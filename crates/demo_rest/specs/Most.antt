-- The most deliveries that the nodes of a generated network can make.
--
-- A node of group g listens to nodes whose number leaves the rest g by 5, as `net_gen` draws them; but for the first node
-- these are of group g - 1. So a node of group 0 listens to the first one alone, and any other to at most two nodes of
-- the group before its own. When they begin, each of the first two nodes puts one message on each arc on which it speaks,
-- and the others put none. So there are at most 2 ^ g deliveries on an arc whose listener is of group g. Of the 511 nodes
-- that listen, 103 are of group 0 and have one arc each, and 102 are of each other group and have two arcs each:
-- 103 + 102 * 2 * (2 + 4 + 8 + 16) = 6223.
use Rattle.std.specs.Prelude.{ℕ}

abbrev pub most_demo_deliveries : ℕ
most_demo_deliveries = 6223

-- how many deliveries `demo` lets them make
abbrev pub demo_turns : ℕ
demo_turns = 100000
