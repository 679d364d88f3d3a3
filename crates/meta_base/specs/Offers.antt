-- How large a buffer a reader of whole files offers to each read.
use Rattle.std.specs.Prelude.{ℕ, ◌≤◌}

-- the least and the greatest room for bytes
abbrev pub least_offer : ℕ
least_offer = 4096

abbrev pub greatest_offer : ℕ
greatest_offer = 16384

abbrev pub IsOffer : ℕ → Type 0
IsOffer room = (least_offer ≤ room) × (room ≤ greatest_offer)
