-- The number of the specification that bounds what a summary sums.
use Rattle.std.specs.Prelude.{ℕ, ◌^◌}

-- the greatest number of a value that a summary sums
abbrev pub max_summed : ℕ
max_summed = 2 ^ 61
