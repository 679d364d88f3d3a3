-- The numbers of the specification that several crates share.
use Rattle.std.specs.Prelude.{ℕ, ◌^◌, ◌-◌}

-- the greatest number of a text of profile 1
abbrev pub max_number : ℕ
max_number = 2 ^ 32 - 1

-- the most bytes of a file
abbrev pub max_file_bytes : ℕ
max_file_bytes = 4194304

-- the most workers
abbrev pub max_workers : ℕ
max_workers = 16

-- the most turns, and so the greatest clock
abbrev pub max_turns : ℕ
max_turns = 1000000

-- the fewest and the most nodes of a generated network
abbrev pub min_demo_nodes : ℕ
min_demo_nodes = 2

abbrev pub max_demo_nodes : ℕ
max_demo_nodes = 512
