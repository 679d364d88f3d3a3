-- What comparisons and tests of numbers say of them.
use Rattle.std.proofs.Common.{◌≡◌, ℕ, ◌<◌, ◌≤◌, ◌==◌, sym, true, false, not, ⊎_elim, arith}
use Rattle.std.proofs.lemmas.Bool.{cases_lt}
use Rattle.std.proofs.lemmas.Bool.Decides.{nat_tests}
use Rattle.std.specs.Prelude.{nat_lt, nat_le}
use Rattle.std.specs.Ordering.{nat_cmp}
use Rattle.std.specs.Cmp.{nat_cmp_is, ranked}
use Rattle.std.specs.declared.cmp.Ordering.TheVariants.{Less, Equal}

-- how numbers compare
pub less : (m n : ℕ) → m < n → nat_cmp m n ≡ Less
less m n h = sym (nat_cmp_is m n Less h)

pub alike : (m n : ℕ) → m ≡ n → nat_cmp m n ≡ Equal
alike m n h = sym (nat_cmp_is m n Equal h)

pub when_less : (m n : ℕ) → nat_cmp m n ≡ Less → m < n
when_less m n e = ranked m n Less (sym e)

pub when_alike : (m n : ℕ) → nat_cmp m n ≡ Equal → m ≡ n
when_alike m n e = ranked m n Equal (sym e)

pub not_less_itself : (n : ℕ) → ¬ (nat_cmp n n ≡ Less)
not_less_itself n e = omega (arith, when_less n n e)

pub not_below : (m n : ℕ) → ¬ (nat_cmp m n ≡ Less) → n ≤ m
not_below m n h = ⊎_elim (λ e. absurd (h (less m n e))) (λ e. e) (cases_lt m n)

-- what each test says
pub same : (m n : ℕ) → (m == n) ≡ true → m ≡ n
same m n e = grind (arith, nat_tests)

pub other : (m n : ℕ) → (m == n) ≡ false → ¬ (m ≡ n)
other m n e h = grind (arith, nat_tests)

pub is_zero : (n : ℕ) → not (n == 0) ≡ false → n ≡ 0
is_zero n e = grind (arith, nat_tests)

pub not_zero : (n : ℕ) → not (n == 0) ≡ true → 0 < n
not_zero n e = grind (arith, nat_tests)

pub positive : (n : ℕ) → (n == 0) ≡ false → 0 < n
positive n e = grind (arith, nat_tests)

pub above : (m n : ℕ) → (m == n) ≡ false → m ≤ n → m < n
above m n e h = grind (arith, nat_tests)

pub is_less : (m n : ℕ) → nat_lt m n ≡ true → m < n
is_less m n e = grind (arith, nat_tests)

pub at_least : (m n : ℕ) → nat_lt m n ≡ false → n ≤ m
at_least m n e = grind (arith, nat_tests)

pub is_at_most : (m n : ℕ) → nat_le m n ≡ true → m ≤ n
is_at_most m n e = grind (arith, nat_tests)

pub is_above : (m n : ℕ) → nat_le m n ≡ false → n < m
is_above m n e = grind (arith, nat_tests)

-- and what it answers
pub tests_at_most : (m n : ℕ) → m ≤ n → nat_le m n ≡ true
tests_at_most m n h = grind (arith, nat_tests)

pub tests_above : (m n : ℕ) → n < m → nat_le m n ≡ false
tests_above m n h = grind (arith, nat_tests)

pub tests_same : (n : ℕ) → (n == n) ≡ true
tests_same n = grind (arith, nat_tests)

pub tests_other : (m n : ℕ) → ¬ (m ≡ n) → (m == n) ≡ false
tests_other m n h = grind (arith, nat_tests)
