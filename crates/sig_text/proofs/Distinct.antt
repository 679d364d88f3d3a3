-- Numbers of which no two are equal.
use Rattle.std.proofs.Common.{◌≡◌, ℕ, ◌+◌, ◌<◌, List, [], ◌∷◌, ◌++◌, length, get_or, take, drop, true, false, Bool, cond, not, ◌&&◌, ◌||◌, ◌==◌, arith, refl, ◌∙◌, ap}
use Rattle.std.specs.List.{list_any}
use Rattle.std.specs.BTreeMap.{is_at}
use Rattle.std.specs.Ordering.{nat_cmp}
use Rattle.std.proofs.lemmas.Bool.Decides.{nat_tests}
use Rattle.std.proofs.lemmas.List.{take_more, take-append-drop}
use Rattle.std.proofs.lemmas.List.Folds.{list_any-append}
use Rattle.alg_model.specs.Carriers.{distinct}

same_either_way : (m n : ℕ) → (m == n) ≡ (n == m)
same_either_way m n = grind (arith, nat_tests)

regrouped : (a b c d : Bool) → (not (a || (b || false)) && (d && not c)) ≡ ((not a && d) && not (b || c))
regrouped a b c d = grind arith

distinct_push : (xs : List ℕ) (n : ℕ) → distinct (xs ++ n ∷ []) ≡ (distinct xs && not (list_any (λ m. m == n) xs))
distinct_push [] n = refl
distinct_push (x ∷ xs) n =
    rw (distinct_push xs n, list_any-append (λ m. m == x) xs (n ∷ []), same_either_way x n) (regrouped (list_any (λ m. m == x) xs) (n == x) (list_any (λ m. m == n) xs) (distinct xs))

distinct_front : (xs ys : List ℕ) → distinct (xs ++ ys) ≡ true → distinct xs ≡ true
distinct_front [] ys h = refl
distinct_front (x ∷ xs) ys h =
    let q = distinct_front xs ys (grind arith) in
    let e = list_any-append (λ m. m == x) xs ys in
    grind arith

-- one more number that is there for the first time
pub distinct_more : (ns : List ℕ) (i : ℕ) → i < length ns → distinct (take i ns) ≡ true → list_any (λ m. m == get_or ns i 0) (take i ns) ≡ false → distinct (take (i + 1) ns) ≡ true
distinct_more ns i h d misses = rw (take_more ns i 0 h, distinct_push (take i ns) (get_or ns i 0), d, misses) refl

-- a number that was there before
pub repeated : (ns : List ℕ) (i : ℕ) → i < length ns → list_any (λ m. m == get_or ns i 0) (take i ns) ≡ true → distinct ns ≡ false
repeated ns i h e = by (distinct ns) refl
  where
    by : (t : Bool) → distinct ns ≡ t → t ≡ false
    by false d = refl
    by true d =
        let f : distinct (take (i + 1) ns) ≡ true = distinct_front (take (i + 1) ns) (drop (i + 1) ns) (ap distinct (take-append-drop (i + 1) ns) ∙ d) in
        let g = ap distinct (take_more ns i 0 h) ∙ distinct_push (take i ns) (get_or ns i 0) in
        grind arith

-- the test of a set's keys
same_test : (m n : ℕ) → is_at (nat_cmp m) n ≡ (m == n)
same_test m n = grind (arith, nat_tests)

-- which numbers were seen after one more
pub seen_more : (before after : ℕ → Bool) (ns : List ℕ) (i : ℕ) → i < length ns
    → ((k : ℕ) → before k ≡ list_any (λ m. m == k) (take i ns)) → ((k : ℕ) → after k ≡ cond (is_at (nat_cmp (get_or ns i 0)) k) true (before k))
    → (k : ℕ) → after k ≡ list_any (λ m. m == k) (take (i + 1) ns)
seen_more before after ns i h s t k =
    let now : list_any (λ m. m == k) (take (i + 1) ns) ≡ (list_any (λ m. m == k) (take i ns) || ((get_or ns i 0 == k) || false)) =
    rw (take_more ns i 0 h) (list_any-append (λ m. m == k) (take i ns) (get_or ns i 0 ∷ [])) in
    let old = s k in
    let new = t k in
    let test = same_test (get_or ns i 0) k in
    grind arith
