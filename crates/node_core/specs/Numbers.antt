-- The number of the specification that bounds what a node says when it begins.
use Rattle.std.specs.Prelude.{ℕ}

-- the most messages that a node puts on one arc when it begins
abbrev pub max_begun : ℕ
max_begun = 64
