-- The number of the specification that bounds literals.
use Rattle.std.specs.Prelude.{ℕ, ◌^◌}

-- the greatest number of any literal
abbrev pub max_literal_number : ℕ
max_literal_number = 2 ^ 119
