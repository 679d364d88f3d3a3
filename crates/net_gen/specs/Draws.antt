-- The random numbers of generated networks: Knuth's MMIX linear congruential generator.
use Rattle.std.specs.Prelude.{ℕ, ◌+◌, ◌*◌, ◌^◌, ◌/◌, ◌%◌}
use Rattle.net_gen.specs.Numbers.{multiplier, increment, dropped_bits}

-- the state that a draw leaves
abbrev pub next : ℕ → ℕ
next x = (x * multiplier + increment) % 2 ^ 64

-- what it gives, below m
abbrev pub drawn : ℕ → ℕ → ℕ
drawn m x = next x / 2 ^ dropped_bits % m
