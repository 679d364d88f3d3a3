-- Numbers of one digit and of two.
use Rattle.std.proofs.Common.{◌≡◌, ℕ, ◌+◌, ◌/◌, ◌%◌, ◌<◌, ◌≤◌, List, [], ◌∷◌, ◌++◌, ap, sym, ◌∙◌, arith, append_assoc, decimal}
use Rattle.std.proofs.lemmas.Fmt.{decimal_digit, decimal_step}

-- the text of one digit is that digit
pub one_digit : (n : ℕ) → n < 10 → decimal n ≡ (48 + n) ∷ []
one_digit = decimal_digit

-- and that of two is one after the other
pub two_digits : (n : ℕ) → 10 ≤ n → n < 100 → decimal n ≡ (48 + n / 10) ∷ (48 + n % 10) ∷ []
two_digits n some few = decimal_step n some (omega arith) ∙ ap (λ digits. digits ++ ((48 + n % 10) ∷ [])) (decimal_digit (n / 10) (omega arith))

-- both were appended, the one and then the other
pub two_after : (out : List ℕ) (n : ℕ) → 10 ≤ n → n < 100 → (out ++ ((48 + n / 10) ∷ [])) ++ ((48 + n % 10) ∷ []) ≡ out ++ decimal n
two_after out n some few = append_assoc out ((48 + n / 10) ∷ []) ((48 + n % 10) ∷ []) ∙ ap (λ digits. out ++ digits) (sym (two_digits n some few))
