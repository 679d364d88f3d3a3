-- The number of the specification that bounds walks.
use Rattle.std.specs.Prelude.{ℕ, ◌^◌}

-- the most nodes of a walk whose weight is asked for
abbrev pub max_walk_nodes : ℕ
max_walk_nodes = 2 ^ 29
