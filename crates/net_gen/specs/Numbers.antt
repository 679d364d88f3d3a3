-- The numbers of the specification that generated networks are made by.
use Rattle.std.specs.Prelude.{ℕ}

-- Knuth's MMIX linear congruential generator: its multiplier and its increment, and the low bits that a draw leaves out
abbrev pub multiplier : ℕ
multiplier = 6364136223846793005

abbrev pub increment : ℕ
increment = 1442695040888963407

abbrev pub dropped_bits : ℕ
dropped_bits = 33

-- how many groups the nodes are of
abbrev pub group_count : ℕ
group_count = 5

-- the greatest label of a link
abbrev pub most_weight : ℕ
most_weight = 9
