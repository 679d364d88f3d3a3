-- Fronts of one kind of byte, and the numbers that digits spell.
use Rattle.std.proofs.Common.{◌≡◌, ℕ, ◌+◌, ◌-◌, ◌*◌, ◌≤◌, ◌<◌, Bool, true, false, not, cond, List, [], ◌∷◌, length, get_or, take, drop, zero, suc, Some, None, arith, refl, ap, sym, ◌∙◌}
use Rattle.std.specs.List.{list_all}
use Rattle.std.proofs.lemmas.List.{at_drop_more}
use Rattle.std.proofs.lemmas.Bool.Decides.{nat_tests}
use Rattle.std.proofs.lemmas.Bool.{eqb-true}
use Rattle.meta_base.specs.Bytes.{is_line_feed, is_word_byte, number_from, front, is_digit}
use Rattle.raml_lex.specs.Views.{IsWithin}
use Rattle.raml_lex.specs.Numbers.{at_most}

-- more digits never spell less
pub number_from_le : (cs : List ℕ) (n : ℕ) → n ≤ number_from n cs
number_from_le [] n = omega arith
number_from_le (c ∷ cs) n = omega (arith, number_from_le cs (10 * n + (c - 48)))

-- one more digit
pub number_from_more : (cs : List ℕ) (i n : ℕ) → i < length cs → is_digit (get_or cs i 0) ≡ true → number_from n (front is_digit (drop i cs)) ≡ number_from (10 * n + (get_or cs i 0 - 48)) (front is_digit (drop (i + 1) cs))
number_from_more cs i n h t =
    ap (number_from n) (at_drop_more (front is_digit) cs i 0 h ∙ ap (λ b. cond b (get_or cs i 0 ∷ front is_digit (drop (i + 1) cs)) []) t)

-- a number that isn't at most the greatest is above it
pub at_most_none : (greatest n : ℕ) → at_most greatest n ≡ None → greatest < n
at_most_none greatest n h = grind (arith, nat_tests)

pub at_most_some : (greatest n m : ℕ) → at_most greatest n ≡ Some m → (m ≡ n) × (n ≤ greatest)
at_most_some greatest n m h = grind (arith, nat_tests)

-- a front of bytes that aren't line feeds has none
pub front_one_line : (p : ℕ → Bool) (cs : List ℕ) → ((c : ℕ) → p c ≡ true → is_line_feed c ≡ false) → list_all (λ c. not (is_line_feed c)) (front p cs) ≡ true
front_one_line p [] h = refl
front_one_line p (c ∷ cs) h = by (p c) refl (front_one_line p cs h)
  where
    by : (b : Bool) → p c ≡ b → list_all (λ c. not (is_line_feed c)) (front p cs) ≡ true → list_all (λ c. not (is_line_feed c)) (cond b (c ∷ front p cs) []) ≡ true
    by true e k = rw (h c e) k
    by false e k = refl

-- no byte of a word is a line feed, and no digit
pub word_byte_in_line : (c : ℕ) → is_word_byte c ≡ true → is_line_feed c ≡ false
word_byte_in_line c h = by (is_line_feed c) refl
  where
    by : (b : Bool) → is_line_feed c ≡ b → b ≡ false
    by true e = absurd (let k : is_word_byte 10 ≡ true = ap is_word_byte (sym (eqb-true c 10 e)) ∙ h in cc)
    by false e = refl

pub digit_in_line : (c : ℕ) → is_digit c ≡ true → is_line_feed c ≡ false
digit_in_line c h = word_byte_in_line c (digit_in_word c h)
  where
    digit_in_word : (c : ℕ) → is_digit c ≡ true → is_word_byte c ≡ true
    digit_in_word c h = grind (arith, nat_tests)

-- a front that isn't empty stands within the text and its line
pub front_within : (p : ℕ → Bool) (text : List ℕ) (n : ℕ) → ((c : ℕ) → p c ≡ true → is_line_feed c ≡ false) → 0 < length text → p (get_or text 0 0) ≡ true
    → n ≤ length text → take n text ≡ front p text → IsWithin n text
front_within p text n h some t w e = record { some = first text n some t e; within = w; one_line = rw e (front_one_line p text h) }
  where
    first : (text : List ℕ) (n : ℕ) → 0 < length text → p (get_or text 0 0) ≡ true → take n text ≡ front p text → 0 < n
    first [] n some t e = absurd (omega arith)
    first (c ∷ cs) zero some t e = absurd (let k : [] ≡ c ∷ front p cs = e ∙ ap (λ b. cond b (c ∷ front p cs) []) t in cc)
    first (c ∷ cs) (suc n) some t e = omega arith
