-- Bits of a set's word, which has 64 of them, in a word of 128.
use Rattle.std.proofs.Common.{◌≡◌, ℕ, ◌+◌, ◌-◌, ◌*◌, ◌^◌, ◌<◌, ◌≤◌, sym, ap, ◌∙◌, arith}
use Rattle.std.specs.Prelude.{bit_and, min}
use Rattle.std.specs.Int.{bit_at}
use Rattle.std.proofs.lemmas.Nat.{and_le_l, pow_below}
use Rattle.std.proofs.Math.Nat.{pow-le-pow_right}
use Rattle.std.proofs.lemmas.Nat.Bits.{bit_at_and, bit_at_cat_low, same_from_bits_below}

-- a set's word is below 2 ^ 64
pub below_word : (n m : ℕ) → n ≤ 64 → m < 2 ^ n → m < 2 ^ 64
below_word n m h i = let p : 2 ^ n ≤ 2 ^ 64 = pow-le-pow_right (omega arith) h in omega arith

-- all bits of a word but one, and all bits of a set's word but one
wide_mask : (k : ℕ) → k < 64 → 2 ^ 128 - 1 - 2 ^ k ≡ (2 ^ 64 - 1) * 2 ^ 64 + (2 ^ 64 - 1 - 2 ^ k)
wide_mask k h = let i : 2 ^ k < 2 ^ 64 = pow_below k 64 h in omega arith

-- taking a bit from a set's word is the same in the wide word
pub cleared : (m k : ℕ) → m < 2 ^ 64 → k < 64 → bit_and m (2 ^ 128 - 1 - 2 ^ k) ≡ bit_and m (2 ^ 64 - 1 - 2 ^ k)
cleared m k h i =
    let wide = 2 ^ 128 - 1 - 2 ^ k in
    let narrow = 2 ^ 64 - 1 - 2 ^ k in
    let l = and_le_l m wide in
    let r = and_le_l m narrow in
    same_from_bits_below 64 (bit_and m wide) (bit_and m narrow) (omega arith) (omega arith)
    (λ j within. bit_at_and m wide j
    ∙ ap (λ b. min (bit_at m j) b) (ap (λ x. bit_at x j) (wide_mask k i) ∙ bit_at_cat_low (2 ^ 64 - 1) 64 narrow j within)
    ∙ sym (bit_at_and m narrow j))
