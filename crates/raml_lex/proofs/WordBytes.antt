-- The table of the bytes of words.
use Rattle.std.proofs.Common.{◌≡◌, ℕ, zero, suc, ◌<◌, Bool, true, false, not, ◌&&◌, eqb, get_or, refl, arith}
use Rattle.std.proofs.lemmas.Bool.Decides.{nat_tests}
use Rattle.meta_base.specs.Bytes.{is_word_byte}
use Rattle.raml_lex.specs.declared.bytes.TheConstants.{WORD_BYTES}

abbrev same : Bool → Bool → Bool
same true b = b
same false b = not b

-- all numbers below n pass
abbrev all_below : (ℕ → Bool) → ℕ → Bool
all_below p zero = true
all_below p (suc n) = p n && all_below p n

and_left : (a b : Bool) → a && b ≡ true → a ≡ true
and_left a b h = grind arith

and_right : (a b : Bool) → a && b ≡ true → b ≡ true
and_right a b h = grind arith

each_below : (p : ℕ → Bool) (n k : ℕ) → all_below p n ≡ true → k < n → p k ≡ true
each_below p zero k h less = absurd (omega (arith, less))
each_below p (suc n) k h less = by (eqb k n) refl (each_below p n k (and_right (p n) (all_below p n) h))
  where
    by : (b : Bool) → eqb k n ≡ b → (k < n → p k ≡ true) → p k ≡ true
    by true e more =
        let last : k ≡ n = grind (arith, nat_tests) in
        rw last (and_left (p n) (all_below p n) h)
    by false e more =
        let before : k < n = grind (arith, nat_tests) in
        more before

same_means : (a b : Bool) → same a b ≡ true → a ≡ b
same_means true true h = refl
same_means false false h = refl
same_means true false h = absurd (cc)
same_means false true h = absurd (cc)

abbrev is_right : ℕ → Bool
is_right c = same (eqb (get_or WORD_BYTES c 0) 1) (is_word_byte c)

table_is_right : all_below is_right 256 ≡ true
table_is_right = refl

-- what the table says of a byte
pub table_says : (c : ℕ) → c < 256 → eqb (get_or WORD_BYTES c 0) 1 ≡ is_word_byte c
table_says c small = same_means (eqb (get_or WORD_BYTES c 0) 1) (is_word_byte c) (each_below is_right 256 c table_is_right small)
