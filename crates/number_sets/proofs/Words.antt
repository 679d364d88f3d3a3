-- Sets of numbers, by words.
use Rattle.std.proofs.Common.{◌≡◌, ◌≢◌, ℕ, zero, suc, ◌*◌, ◌/◌, ◌%◌, ◌^◌, ◌<◌, List, [], ◌∷◌, ◌++◌, Bool, true, false, ◌||◌, ◌==◌, length, get_or, set, refl, sym, ap, ◌∙◌, arith}
use Rattle.std.specs.Prelude.{bit_or}
use Rattle.std.specs.Int.{bit_at}
use Rattle.std.proofs.Common.{w64}
use Rattle.std.proofs.Math.Nat.{div-add-mod, mod-lt}
use Rattle.std.proofs.lemmas.Bool.{eqb-true}
use Rattle.std.proofs.lemmas.Bool.Decides.{nat_tests}
use Rattle.std.proofs.lemmas.List.{get_or-set_same, get_or-set_other}
use Rattle.std.proofs.lemmas.Nat.Bits.{bit_at_set_same, bit_at_set_other}
use Rattle.number_sets.specs.NumberSets.{has_number}

same_place : (i n : ℕ) → i / 64 ≡ n / 64 → i % 64 ≡ n % 64 → i ≡ n
same_place i n e f = sym (div-add-mod i 64) ∙ (rw (e, f) (div-add-mod n 64))

or_false : (b : Bool) → (b || false) ≡ b
or_false true = refl
or_false false = refl

or_true : (b : Bool) → (b || true) ≡ true
or_true true = refl
or_true false = refl

read_more : (words : List ℕ) (k : ℕ) → get_or (words ++ 0 ∷ []) k 0 ≡ get_or words k 0
read_more [] zero = refl
read_more [] (suc k) = refl
read_more (w ∷ words) zero = refl
read_more (w ∷ words) (suc k) = read_more words k

-- a word of no number more changes no set
pub number_more : (words : List ℕ) (i : ℕ) → has_number (words ++ 0 ∷ []) i ≡ has_number words i
number_more words i = ap (λ z. bit_at z (i % 64) == 1) (read_more words (i / 64))

-- the words with one number more
abbrev pub with_number : List ℕ → ℕ → List ℕ
with_number words n = set words (n / 64) (bit_or (get_or words (n / 64) 0) (1 * 2 ^ (n % 64) % 18446744073709551616))

pub number_set : (words : List ℕ) (n i : ℕ) → n / 64 < length words → has_number (with_number words n) i ≡ (has_number words i || n == i)
number_set words n i within = by (i / 64 == n / 64) (i % 64 == n % 64) refl refl
  where
    small : n % 64 < 64
    small = mod-lt n (omega arith)

    other : n ≢ i → (n == i) ≡ false
    other apart = grind (arith, nat_tests)

    read : i / 64 ≡ n / 64 → get_or (with_number words n) (i / 64) 0 ≡ bit_or (get_or words (n / 64) 0) (1 * 2 ^ (n % 64) % 18446744073709551616)
    read place = ap (λ z. get_or (with_number words n) z 0) place
        ∙ get_or-set_same words (n / 64) (bit_or (get_or words (n / 64) 0) (1 * 2 ^ (n % 64) % 18446744073709551616)) 0 within

    by : (b d : Bool) → (i / 64 == n / 64) ≡ b → (i % 64 == n % 64) ≡ d → has_number (with_number words n) i ≡ (has_number words i || n == i)
    by true true e f =
        let place : i / 64 ≡ n / 64 = eqb-true (i / 64) (n / 64) e in
        let bit : i % 64 ≡ n % 64 = eqb-true (i % 64) (n % 64) f in
        let same : n ≡ i = sym (same_place i n place bit) in
        let test : (n == i) ≡ true = grind (arith, nat_tests) in
        let set_bit = bit_at_set_same w64 (get_or words (n / 64) 0) (n % 64) small in
        let one : bit_at (get_or (with_number words n) (i / 64) 0) (i % 64) ≡ 1 = ap (λ z. bit_at z (i % 64)) (read place) ∙ ap (bit_at (bit_or (get_or words (n / 64) 0) (1 * 2 ^ (n % 64) % 18446744073709551616))) bit ∙ set_bit in
        ap (λ z. z == 1) one ∙ sym (rw test (or_true (has_number words i)))
    by true false e f =
        let place : i / 64 ≡ n / 64 = eqb-true (i / 64) (n / 64) e in
        let bit : i % 64 ≢ n % 64 = grind (arith, nat_tests) in
        let test : (n == i) ≡ false = other (λ same. bit (ap (λ z. z % 64) (sym same))) in
        let kept = bit_at_set_other w64 (get_or words (n / 64) 0) (n % 64) small (i % 64) bit in
        let was : bit_at (get_or (with_number words n) (i / 64) 0) (i % 64) ≡ bit_at (get_or words (i / 64) 0) (i % 64) =
        ap (λ z. bit_at z (i % 64)) (read place) ∙ kept ∙ ap (λ z. bit_at (get_or words z 0) (i % 64)) (sym place) in
        ap (λ z. z == 1) was ∙ sym (rw test (or_false (has_number words i)))
    by false d e f =
        let place : i / 64 ≢ n / 64 = grind (arith, nat_tests) in
        let test : (n == i) ≡ false = other (λ same. place (ap (λ z. z / 64) (sym same))) in
        let kept = get_or-set_other words (n / 64) (i / 64) (bit_or (get_or words (n / 64) 0) (1 * 2 ^ (n % 64) % 18446744073709551616)) 0 place in
        ap (λ z. bit_at z (i % 64) == 1) kept ∙ sym (rw test (or_false (has_number words i)))
