-- Pairs of ids in a list.
use Rattle.std.specs.Prelude.{ℕ, List, Bool, ◌==◌, ◌&&◌}
use Rattle.std.specs.List.{list_any}

abbrev pub is_pair : ℕ → ℕ → ℕ × ℕ → Bool
is_pair first second p = p.0 == first && p.1 == second

-- the pair is there
abbrev pub has_pair : List (ℕ × ℕ) → ℕ → ℕ → Bool
has_pair pairs first second = list_any (is_pair first second) pairs
