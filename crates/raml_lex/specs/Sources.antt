-- Where a reader of tokens stands in its source.
use Rattle.meta_base.specs.Numbers.{max_file_bytes}
use Rattle.std.specs.Prelude.{◌≡◌, ℕ, ◌+◌, ◌-◌, ◌≤◌, List, length, take}
use Rattle.meta_base.specs.declared.ids.Place.{Place}
use Rattle.raml_lex.specs.Places.{place_after}
use Rattle.raml_lex.specs.declared.cursor.Cursor.{Cursor}

-- it stands within a source that isn't too long, and its place is right
pub record IsSource (source : List ℕ) (at : ℕ) (here : Place) : Type 0 where
  pub short : length source ≤ max_file_bytes
  pub within : at ≤ length source
  pub place : here ≡ place_after (take at source)

-- the place of a cursor
abbrev pub place_at : Cursor → Place
place_at c = record { line = c.line; column = c.at - c.line_start + 1 }

-- the cursor stands within the source, in the line that it tells
pub record IsCursor (source : List ℕ) (c : Cursor) : Type 0 where
  pub here : IsSource source c.at (place_at c)
  pub start : c.line_start ≤ c.at
