-- A store of rows, one after another, each with an entry at so many places, seen place by place.
use Rattle.std.specs.Prelude.{◌≡◌, ℕ, zero, suc, ◌<◌, List, [], ◌∷◌, Option, Some, None, length, slice_get}
use Rattle.std.proofs.Math.ListN.{drop}
use Rattle.path_vector.specs.declared.known.Known.{Known}
use Rattle.path_vector.specs.declared.neighbour.Neighbour.{Neighbour}
use Rattle.path_vector.specs.Known.{entry_of, Listened}

-- what stands at a place of each of so many rows of a width
abbrev pub column : {X : Type 0} → ℕ → ℕ → ℕ → List (Option X) → List (Option X)
column zero width place entries = []
column (suc rows) width place entries = entry_of entries place ∷ column rows width place (drop width entries)

-- the things at the places from one on, each with its column
abbrev pub joined_from : {N M X : Type 0} → (N → List (Option X) → M) → ℕ → ℕ → ℕ → List N → List (Option X) → List M
joined_from join rows width place [] entries = []
joined_from join rows width place (n ∷ ns) entries = join n (column rows width place entries) ∷ joined_from join rows width (suc place) ns entries

-- things, each with its column of a store that has an entry for each of them in each row
abbrev pub joined : {N M X : Type 0} → (N → List (Option X) → M) → ℕ → List N → List (Option X) → List M
joined join rows ns entries = joined_from join rows (length ns) 0 ns entries

module _ {L S : Type 0} where
  -- a neighbour with what was heard of it
  abbrev pub listened_to : Neighbour L → List (Option (Known S)) → Listened L S
  listened_to n heard = record { arc = n.arc; label = n.label; heard = heard }

  -- the neighbours, each with what was heard of it, from a store with a row for each destination
  abbrev pub listened : ℕ → List (Neighbour L) → List (Option (Known S)) → List (Listened L S)
  listened dests neighbours routes = joined listened_to dests neighbours routes

  -- there is a neighbour at the place, and an entry for the destination of what was heard of it
  abbrev pub HasEntry : ℕ → ℕ → List (Listened L S) → Type 0
  HasEntry place dest neighbours = (n : Listened L S) × (slice_get neighbours place ≡ Some n) × (dest < length n.heard)

  -- the same, with an entry for each of so many destinations
  abbrev pub HasEntries : ℕ → ℕ → List (Listened L S) → Type 0
  HasEntries place dests neighbours = (n : Listened L S) × (slice_get neighbours place ≡ Some n) × (length n.heard ≡ dests)

  -- these neighbours, of which nothing was heard for any of so many destinations
  pub record IsSilent (dests : ℕ) (n : Neighbour L) (m : Listened L S) : Type 0 where
    pub arc : m.arc ≡ n.arc
    pub label : m.label ≡ n.label
    pub count : length m.heard ≡ dests
    pub none : (dest : ℕ) → entry_of m.heard dest ≡ None

  abbrev pub AreSilent : ℕ → List (Neighbour L) → List (Listened L S) → Type 0
  AreSilent dests [] [] = Unit {0}
  AreSilent dests (n ∷ ns) (m ∷ ms) = IsSilent dests n m × AreSilent dests ns ms
  AreSilent dests [] (m ∷ ms) = ⊥
  AreSilent dests (n ∷ ns) [] = ⊥
