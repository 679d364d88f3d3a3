-- What holds of sets of numbers. Lemmas, so that proofs of other crates may cite them.
use Rattle.std.proofs.Common.{◌≡◌, ◌%◌, ℕ, [], false, refl}
use Rattle.std.proofs.lemmas.Nat.Bits.{bit_at-zero}
use Rattle.number_sets.specs.NumberSets.{has_number}

-- the empty set
pub no_number : (i : ℕ) → has_number [] i ≡ false
no_number i = rw (bit_at-zero (i % 64)) refl
