-- Sequences of symbols.
use Rattle.std.proofs.Common.{◌≡◌, ◌≢◌, ℕ, zero, suc, ◌+◌, ◌<◌, ◌≤◌, List, [], ◌∷◌, ◌++◌, length, get_or, take, drop, set, true, false, Bool, not, ◌&&◌, ◌||◌, ◌==◌, arith, refl, ◌∙◌, ap, get_or-set_same, get_or-set_other}
use Rattle.std.specs.Prelude.{nat_lt}
use Rattle.std.specs.List.{AllByRecursion, list_all, list_any, IsDistinct}
use Rattle.std.proofs.lemmas.Bool.Decides.{nat_tests}
use Rattle.std.proofs.lemmas.List.{take_more, take-append-drop}
use Rattle.std.proofs.lemmas.List.Folds.{list_any-append}
use Rattle.std.proofs.lemmas.Map.Steps.{length-le_from_distinct_below}
use Rattle.alg_model.specs.Carriers.{distinct}

-- all are below the bound
abbrev pub Below : ℕ → List ℕ → Type 0
Below bound ns = AllByRecursion (λ n. n < bound) ns

below_test : (bound : ℕ) (ns : List ℕ) → list_all (λ n. nat_lt n bound) ns ≡ true → Below bound ns
below_test bound [] h = tt
below_test bound (n ∷ ns) h =
    let p : n < bound = grind (arith, nat_tests) in
    let q : list_all (λ m. nat_lt m bound) ns ≡ true = grind (arith, nat_tests) in
    (p, below_test bound ns q)

test_below : (bound : ℕ) (ns : List ℕ) → Below bound ns → list_all (λ n. nat_lt n bound) ns ≡ true
test_below bound [] h = refl
test_below bound (n ∷ ns) h =
    let p : n < bound = h.0 in
    let q = test_below bound ns h.1 in
    grind (arith, nat_tests)

-- the test finds whether all are below the bound
pub below_by_test : (bound : ℕ) (ns : List ℕ) → (list_all (λ n. nat_lt n bound) ns ≡ true → Below bound ns) × (Below bound ns → list_all (λ n. nat_lt n bound) ns ≡ true)
below_by_test bound ns = (below_test bound ns, test_below bound ns)

-- a symbol of them is below their bound
pub below_at : (bound : ℕ) (ns : List ℕ) (i : ℕ) → Below bound ns → i < length ns → get_or ns i 0 < bound
below_at bound [] i b h = absurd (omega arith)
below_at bound (n ∷ ns) zero b h = b.0
below_at bound (n ∷ ns) (suc i) b h = below_at bound ns i b.1 (omega arith)

-- so is one that a test finds among them
below_any : (bound : ℕ) (ns : List ℕ) → Below bound ns → (q : ℕ) → list_any (λ m. q == m) ns ≡ true → q < bound
below_any bound [] b q h = absurd (cc)
below_any bound (n ∷ ns) b q h = by (q == n) refl (below_any bound ns b.1 q)
  where
    by : (t : Bool) → (q == n) ≡ t → (list_any (λ m. q == m) ns ≡ true → q < bound) → q < bound
    by true e r = let p : n < bound = b.0 in grind (arith, nat_tests)
    by false e r = let a : list_any (λ m. q == m) ns ≡ true = grind arith in r a

same_either_way : (m n : ℕ) → (m == n) ≡ (n == m)
same_either_way m n = grind (arith, nat_tests)

-- the two ways to say that no two are equal
apart : (n : ℕ) (ns : List ℕ) → list_any (λ m. m == n) ns ≡ false → AllByRecursion (λ m. (n == m) ≡ false) ns
apart n [] h = tt
apart n (m ∷ ns) h =
    let p : (m == n) ≡ false = grind arith in
    let q : list_any (λ m. m == n) ns ≡ false = grind arith in
    (same_either_way n m ∙ p, apart n ns q)

is_distinct : (ns : List ℕ) → distinct ns ≡ true → IsDistinct (λ m n. m == n) ns
unfolding IsDistinct
is_distinct [] h = tt
is_distinct (n ∷ ns) h =
    let p : list_any (λ m. m == n) ns ≡ false = grind arith in
    let q : distinct ns ≡ true = grind arith in
    (apart n ns p, is_distinct ns q)

-- symbols below a bound of which no two are equal are no more than the bound
pub few_when_distinct : (bound : ℕ) (ns : List ℕ) → Below bound ns → distinct ns ≡ true → length ns ≤ bound
few_when_distinct bound ns b d = length-le_from_distinct_below ns bound (is_distinct ns d) (below_any bound ns b)

regrouped : (a b c d : Bool) → (not (a || (b || false)) && (d && not c)) ≡ ((not a && d) && not (b || c))
regrouped a b c d = grind arith

distinct-push : (xs : List ℕ) (n : ℕ) → distinct (xs ++ n ∷ []) ≡ (distinct xs && not (list_any (λ m. m == n) xs))
distinct-push [] n = refl
distinct-push (x ∷ xs) n =
    rw (distinct-push xs n, list_any-append (λ m. m == x) xs (n ∷ []), same_either_way x n) (regrouped (list_any (λ m. m == x) xs) (n == x) (list_any (λ m. m == n) xs) (distinct xs))

distinct_front : (xs ys : List ℕ) → distinct (xs ++ ys) ≡ true → distinct xs ≡ true
distinct_front [] ys h = refl
distinct_front (x ∷ xs) ys h =
    let q = distinct_front xs ys (grind arith) in
    let e = list_any-append (λ m. m == x) xs ys in
    grind arith

-- one more symbol that is there for the first time
pub distinct_more : (ns : List ℕ) (i : ℕ) → i < length ns → distinct (take i ns) ≡ true → list_any (λ m. m == get_or ns i 0) (take i ns) ≡ false → distinct (take (i + 1) ns) ≡ true
distinct_more ns i h d misses = rw (take_more ns i 0 h, distinct-push (take i ns) (get_or ns i 0), d, misses) refl

-- a symbol that was there before
pub repeated : (ns : List ℕ) (i : ℕ) → i < length ns → list_any (λ m. m == get_or ns i 0) (take i ns) ≡ true → distinct ns ≡ false
repeated ns i h e = by (distinct ns) refl
  where
    by : (t : Bool) → distinct ns ≡ t → t ≡ false
    by false d = refl
    by true d =
        let f : distinct (take (i + 1) ns) ≡ true = distinct_front (take (i + 1) ns) (drop (i + 1) ns) (ap distinct (take-append-drop (i + 1) ns) ∙ d) in
        let g = ap distinct (take_more ns i 0 h) ∙ distinct-push (take i ns) (get_or ns i 0) in
        grind arith

-- the table of symbols seen after one more
pub seen_more : (seen : List Bool) (bound : ℕ) (ns : List ℕ) (i : ℕ) → i < length ns → length seen ≡ bound → get_or ns i 0 < bound
    → ((k : ℕ) → k < bound → get_or seen k false ≡ list_any (λ m. m == k) (take i ns))
    → (k : ℕ) → k < bound → get_or (set seen (get_or ns i 0) true) k false ≡ list_any (λ m. m == k) (take (i + 1) ns)
seen_more seen bound ns i h l b s k j = by (get_or ns i 0 == k) refl
  where
    now : list_any (λ m. m == k) (take (i + 1) ns) ≡ (list_any (λ m. m == k) (take i ns) || ((get_or ns i 0 == k) || false))
    now = rw (take_more ns i 0 h) (list_any-append (λ m. m == k) (take i ns) (get_or ns i 0 ∷ []))

    by : (t : Bool) → (get_or ns i 0 == k) ≡ t → get_or (set seen (get_or ns i 0) true) k false ≡ list_any (λ m. m == k) (take (i + 1) ns)
    by true e =
        let same : get_or ns i 0 ≡ k = grind (arith, nat_tests) in
        let place : get_or ns i 0 < length seen = omega arith in
        let read : get_or (set seen (get_or ns i 0) true) (get_or ns i 0) false ≡ true = get_or-set_same seen (get_or ns i 0) true false place in
        let then = now in
        grind arith
    by false e =
        let other : k ≢ get_or ns i 0 = grind (arith, nat_tests) in
        let read = get_or-set_other seen (get_or ns i 0) k true false other in
        let before = s k j in
        let then = now in
        grind arith
