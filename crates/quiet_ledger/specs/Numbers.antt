-- The numbers of the specification that bound what a book counts.
use Rattle.std.specs.Prelude.{ℕ, ◌^◌}

-- the most updates that one worker sends, and the most that it takes
abbrev pub max_share : ℕ
max_share = 2 ^ 56

-- the most that were sent, and that were taken, before the workers began
abbrev pub max_base : ℕ
max_base = 2 ^ 62
