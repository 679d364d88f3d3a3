-- Places in a text: the line and the column, both from 1.
use Rattle.std.specs.Prelude.{ℕ, ◌+◌, ◌<◌, ◌^◌, List, [], ◌∷◌, not, count_by, if◌then◌else◌}
use Rattle.std.specs.List.{suffix_len}
use Rattle.meta_base.specs.declared.ids.Place.{Place}
use Rattle.meta_base.specs.Bytes.{is_line_feed}

-- a line, a column, or a number of bytes that a place can tell
abbrev pub FitsPlace : ℕ → Type 0
FitsPlace n = n < 2 ^ 32

-- the place after these bytes: one line more than they have line feeds, one column more than the bytes
-- since the last of those
abbrev pub place_after : List ℕ → Place
place_after before = record { line = 1 + count_by is_line_feed before; column = 1 + suffix_len (λ c. not (is_line_feed c)) before }

-- one byte on
abbrev pub moved : Place → ℕ → Place
moved p c = if is_line_feed c then record { line = p.line + 1; column = 1 } else record { line = p.line; column = p.column + 1 }

-- these bytes on
abbrev pub moved_over : Place → List ℕ → Place
moved_over p [] = p
moved_over p (c ∷ cs) = moved_over (moved p c) cs
