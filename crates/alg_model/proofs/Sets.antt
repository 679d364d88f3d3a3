-- Sets as the bits of a word.
use Rattle.std.proofs.Common.{◌≡◌, ℕ, ◌<◌, ◌≤◌, ◌/◌, ◌^◌, ◌==◌, true, arith}
use Rattle.std.proofs.lemmas.Bool.Decides.{nat_tests}
use Rattle.std.proofs.lemmas.Nat.{pow_pos}
use Rattle.std.proofs.Math.Pow.{pow_mono}
use Rattle.std.proofs.Math.Nat.{div-eq_of_lt, lt-div-mul-add}

-- no more than a word's bits are in a word
pub any_word : (m k : ℕ) → m < 2 ^ 64 → 64 ≤ k → m < 2 ^ k
any_word m k h b = let p : 2 ^ 64 ≤ 2 ^ k = pow_mono b in omega arith

quotient_zero : (m d : ℕ) → 0 < d → m / d ≡ 0 → m < d
quotient_zero m d p e = let l = lt-div-mul-add {a = m} {b = d} p in let k = rw e at l in omega arith

-- nothing is left above the bits of a set
pub none_above : (m k : ℕ) → ((m / 2 ^ k == 0) ≡ true → m < 2 ^ k) × (m < 2 ^ k → (m / 2 ^ k == 0) ≡ true)
none_above m k = (
  λ h. let e : m / 2 ^ k ≡ 0 = grind (arith, nat_tests) in quotient_zero m (2 ^ k) (pow_pos k) e,
  λ h. let e : m / 2 ^ k ≡ 0 = div-eq_of_lt h in grind (arith, nat_tests),
)
