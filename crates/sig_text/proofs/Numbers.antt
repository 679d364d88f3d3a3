-- Numbers that digits spell.
use Rattle.std.proofs.Common.{◌≡◌, ℕ, ◌+◌, ◌-◌, ◌*◌, ◌≤◌, ◌<◌, Bool, true, cond, List, [], ◌∷◌, length, get_or, drop, arith, ap, ◌∙◌}
use Rattle.std.proofs.lemmas.List.{at_drop_more}
use Rattle.meta_base.specs.Bytes.{number_from, front, after_front, is_digit}

-- more digits never spell less
pub number_from_le : (cs : List ℕ) (n : ℕ) → n ≤ number_from n cs
number_from_le [] n = omega arith
number_from_le (c ∷ cs) n = omega (arith, number_from_le cs (10 * n + (c - 48)))

-- a front goes on over a byte that passes
pub front_more : (p : ℕ → Bool) (cs : List ℕ) (i : ℕ) → i < length cs → p (get_or cs i 0) ≡ true → front p (drop i cs) ≡ get_or cs i 0 ∷ front p (drop (i + 1) cs)
front_more p cs i h t = at_drop_more (front p) cs i 0 h ∙ ap (λ b. cond b (get_or cs i 0 ∷ front p (drop (i + 1) cs)) []) t

pub after_more : (p : ℕ → Bool) (cs : List ℕ) (i : ℕ) → i < length cs → p (get_or cs i 0) ≡ true → after_front p (drop i cs) ≡ after_front p (drop (i + 1) cs)
after_more p cs i h t = at_drop_more (after_front p) cs i 0 h ∙ ap (λ b. cond b (after_front p (drop (i + 1) cs)) (get_or cs i 0 ∷ drop (i + 1) cs)) t

-- one more digit
pub number_from_more : (cs : List ℕ) (i n : ℕ) → i < length cs → is_digit (get_or cs i 0) ≡ true → number_from n (front is_digit (drop i cs)) ≡ number_from (10 * n + (get_or cs i 0 - 48)) (front is_digit (drop (i + 1) cs))
number_from_more cs i n h t = ap (number_from n) (front_more is_digit cs i h t)
