-- The words of sets.
use Rattle.std.proofs.Common.{◌≡◌, ◌≢◌, ℕ, ◌^◌, ◌<◌, ◌≤◌, List, ◌∷◌, None, Bool, true, false, refl, arith}
use Rattle.std.specs.Prelude.{nat_lt}
use Rattle.std.proofs.Math.Pow.{pow_mono}
use Rattle.alg_model.specs.Expressions.{marks}
use Rattle.code_gen.specs.Encoding.{small_front}
use Rattle.std.proofs.lemmas.Bool.Decides.{nat_tests}

-- the word of a set of numbers below 64, in front of a row
pub marks_fit : (count w : ℕ) (row rest : List ℕ) → count ≤ 64 → row ≡ w ∷ rest → small_front (2 ^ count) marks row ≢ None → w < 2 ^ 64
marks_fit count w row rest few is there = by (nat_lt w (2 ^ count)) refl
  where
    by : (b : Bool) → nat_lt w (2 ^ count) ≡ b → w < 2 ^ 64
    by true e =
        let below : w < 2 ^ count = grind (arith, nat_tests) in
        let most = pow_mono few in
        omega arith
    by false e = absurd (there (rw (is, e) refl))
