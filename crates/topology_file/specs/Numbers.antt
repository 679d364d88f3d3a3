-- The number of the specification that bounds the lines of network files.
use Rattle.std.specs.Prelude.{ℕ}

-- the most bytes of a line
abbrev pub max_line_bytes : ℕ
max_line_bytes = 4096
