-- What can be tested of values, for definitions that go by it: each test, and the law that it decides.
-- Lemmas, so that proofs of other crates may cite them.
use Rattle.std.proofs.Common.{◌≡◌, ℕ, ◌<◌, ◌≤◌, ◌^◌, List, [], ◌∷◌, Bool, true, false, ◌&&◌, length, refl, arith}
use Rattle.std.specs.Prelude.{◌==◌, nat_le, nat_lt}
use Rattle.std.specs.Bool.{Decides}
use Rattle.std.specs.List.{AllByRecursion, list_all}
use Rattle.std.specs.Str.{bytes_eq}
use Rattle.std.proofs.lemmas.Bool.Decides.{nat_tests, Decides-and, Decides-eqb}
use Rattle.std.proofs.lemmas.Slice.Eq.{bytes_eq-Decides}
use Rattle.alg_model.specs.Expressions.{PureCarrier, whole, up_to, down_from, seqs, simseqs, sets, one, named, pairs, sides}
use Rattle.alg_model.specs.Expressions.{PureValue, number, symbols, marks, unit, name, pair, first, second}
use Rattle.alg_model.specs.Carriers.{In, distinct}
use Rattle.alg_model.specs.Bounds.{AtMost}

-- the value is in the carrier
abbrev pub is_in : PureCarrier → PureValue → Bool
is_in whole (number n) = true
is_in (up_to top) (number n) = nat_le n top
is_in (down_from top) (number n) = nat_le n top
is_in (seqs k) (symbols ns) = list_all (λ n. nat_lt n k) ns
is_in (simseqs k) (symbols ns) = list_all (λ n. nat_lt n k) ns && distinct ns
is_in (sets k) (marks m) = nat_lt m (2 ^ k)
is_in one unit = true
is_in (named names ranks) (name k) = nat_lt k (length names)
is_in (pairs c d) (pair u v) = is_in c u && is_in d v
is_in (sides c d) (first u) = is_in c u
is_in (sides c d) (second v) = is_in d v
is_in _ _ = false

-- no number of the value is above n
abbrev pub is_at_most : ℕ → PureValue → Bool
is_at_most n (number m) = nat_le m n
is_at_most n (symbols ms) = list_all (λ m. nat_le m n) ms
is_at_most n (marks m) = true
is_at_most n unit = true
is_at_most n (name k) = true
is_at_most n (pair u v) = is_at_most n u && is_at_most n v
is_at_most n (first u) = is_at_most n u
is_at_most n (second v) = is_at_most n v

-- the values are one
abbrev pub same_value : PureValue → PureValue → Bool
same_value (number m) (number n) = m == n
same_value (symbols ms) (symbols ns) = bytes_eq ms ns
same_value (marks m) (marks n) = m == n
same_value unit unit = true
same_value (name j) (name k) = j == k
same_value (pair u v) (pair x y) = same_value u x && same_value v y
same_value (first u) (first x) = same_value u x
same_value (second v) (second y) = same_value v y
same_value _ _ = false

-- a test of each item decides what holds of all
pub all_decided : {X : Type 0} (p : X → Bool) (P : X → Type 0) → ((x : X) → Decides (p x) (P x)) → (xs : List X) → Decides (list_all p xs) (AllByRecursion P xs)
all_decided p P each [] = (λ _. tt, λ _. refl)
all_decided p P each (x ∷ xs) = Decides-and (p x) (list_all p xs) (each x) (all_decided p P each xs)

at_most_decided : (m n : ℕ) → Decides (nat_le m n) (m ≤ n)
at_most_decided m n = (λ e. grind (arith, nat_tests), λ h. grind (arith, nat_tests))

below_decided : (m n : ℕ) → Decides (nat_lt m n) (m < n)
below_decided m n = (λ e. grind (arith, nat_tests), λ h. grind (arith, nat_tests))

true_decided : (b : Bool) → Decides b (b ≡ true)
true_decided b = (λ e. e, λ e. e)

pub is_in-Decides : (c : PureCarrier) (v : PureValue) → Decides (is_in c v) (In c v)
is_in-Decides whole (number n) = (λ _. tt, λ _. refl)
is_in-Decides (up_to top) (number n) = at_most_decided n top
is_in-Decides (down_from top) (number n) = at_most_decided n top
is_in-Decides (seqs k) (symbols ns) = all_decided (λ n. nat_lt n k) (λ n. n < k) (λ n. below_decided n k) ns
is_in-Decides (simseqs k) (symbols ns) = Decides-and (list_all (λ n. nat_lt n k) ns) (distinct ns) (all_decided (λ n. nat_lt n k) (λ n. n < k) (λ n. below_decided n k) ns) (true_decided (distinct ns))
is_in-Decides (sets k) (marks m) = below_decided m (2 ^ k)
is_in-Decides one unit = (λ _. tt, λ _. refl)
is_in-Decides (named names ranks) (name k) = below_decided k (length names)
is_in-Decides (pairs c d) (pair u v) = Decides-and (is_in c u) (is_in d v) (is_in-Decides c u) (is_in-Decides d v)
is_in-Decides (sides c d) (first u) = is_in-Decides c u
is_in-Decides (sides c d) (second v) = is_in-Decides d v
is_in-Decides _ _ = (λ e. absurd (cc), λ h. absurd h)

pub is_at_most-Decides : (n : ℕ) (v : PureValue) → Decides (is_at_most n v) (AtMost n v)
is_at_most-Decides n (number m) = at_most_decided m n
is_at_most-Decides n (symbols ms) = all_decided (λ m. nat_le m n) (λ m. m ≤ n) (λ m. at_most_decided m n) ms
is_at_most-Decides n (marks m) = (λ _. tt, λ _. refl)
is_at_most-Decides n unit = (λ _. tt, λ _. refl)
is_at_most-Decides n (name k) = (λ _. tt, λ _. refl)
is_at_most-Decides n (pair u v) = Decides-and (is_at_most n u) (is_at_most n v) (is_at_most-Decides n u) (is_at_most-Decides n v)
is_at_most-Decides n (first u) = is_at_most-Decides n u
is_at_most-Decides n (second v) = is_at_most-Decides n v

both_same : {A B C : Type 0} (f : A → B → C) (a b : Bool) (u x : A) (v y : B) → Decides a (u ≡ x) → Decides b (v ≡ y) → (a && b) ≡ true → f u v ≡ f x y
both_same f a b u x v y d e h =
    let both = (Decides-and a b d e).0 h in
    rw (both.0, both.1) refl

pub same_value-Decides : (u v : PureValue) → Decides (same_value u v) (u ≡ v)
same_value-Decides (number m) (number n) = let d = Decides-eqb m n in (λ e. rw (d.0 e) refl, λ e. d.1 (cc))
same_value-Decides (symbols ms) (symbols ns) = let d = bytes_eq-Decides ms ns in (λ e. rw (d.0 e) refl, λ e. d.1 (cc))
same_value-Decides (marks m) (marks n) = let d = Decides-eqb m n in (λ e. rw (d.0 e) refl, λ e. d.1 (cc))
same_value-Decides unit unit = (λ _. refl, λ _. refl)
same_value-Decides (name j) (name k) = let d = Decides-eqb j k in (λ e. rw (d.0 e) refl, λ e. d.1 (cc))
same_value-Decides (pair u v) (pair x y) =
    let d = same_value-Decides u x in
    let e = same_value-Decides v y in
    (both_same pair (same_value u x) (same_value v y) u x v y d e, λ h. (Decides-and (same_value u x) (same_value v y) d e).1 (cc, cc))
same_value-Decides (first u) (first x) = let d = same_value-Decides u x in (λ e. rw (d.0 e) refl, λ e. d.1 (cc))
same_value-Decides (second v) (second y) = let d = same_value-Decides v y in (λ e. rw (d.0 e) refl, λ e. d.1 (cc))
same_value-Decides _ _ = (λ e. absurd (cc), λ e. absurd (cc))
