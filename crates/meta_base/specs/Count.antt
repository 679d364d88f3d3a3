-- Counts: numbers that never fall, and stand still at the greatest u64.
use Rattle.std.specs.Prelude.{◌≡◌, ℕ, ◌<◌, ◌⊎◌, ◌+◌, ◌^◌, ◌-◌, min}

-- a count that was n, after m more
abbrev pub raised : ℕ → ℕ → ℕ
raised n m = min (n + m) (2 ^ 64 - 1)

-- the count is greater than before, or stands at its end
abbrev pub HasRisen : ℕ → ℕ → Type 0
HasRisen before after = (before < after) ⊎ (after ≡ 2 ^ 64 - 1)
