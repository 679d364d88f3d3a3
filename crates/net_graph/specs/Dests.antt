-- Destinations, with the one of a new origin.
use Rattle.std.specs.Prelude.{ℕ, List, [], ◌∷◌, ◌++◌, length, unwrap_or}
use Rattle.std.specs.Option.{option_map_or}
use Rattle.net_graph.specs.Nets.{number_of}

-- the names of destinations with this one among them, and its number
abbrev pub dests_with : List (List ℕ) → List ℕ → List (List ℕ)
dests_with dests name = option_map_or (λ _. dests) (number_of dests name) (dests ++ name ∷ [])

abbrev pub dest_number : List (List ℕ) → List ℕ → ℕ
dest_number dests name = unwrap_or (number_of dests name) (length dests)
