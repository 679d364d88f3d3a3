-- Files in memory, by their names and by their places.
use Rattle.std.specs.Prelude.{ℕ, List, [], ◌∷◌, Option, Some, None, if◌then◌else◌, slice_get}
use Rattle.std.specs.Option.{option_map_or}
use Rattle.std.specs.Str.{bytes_eq}
use Rattle.meta_base.specs.declared.mem_shelf.MemFile.{MemFile}

-- the bytes of the first file of that name, if there is one
abbrev pub bytes_named : List ℕ → List MemFile → Option (List ℕ)
bytes_named name [] = None
bytes_named name (f ∷ fs) = if bytes_eq f.name name then Some f.bytes else bytes_named name fs

-- the bytes of the file at a place, or none past the last
abbrev pub bytes_at : List MemFile → ℕ → List ℕ
bytes_at fs place = option_map_or (λ f. f.bytes) (slice_get fs place) []
