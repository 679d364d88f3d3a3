-- Sets of numbers as words of bits, and the names of a table.
use Rattle.std.proofs.Common.{◌≡◌, ◌≢◌, ℕ, ◌+◌, ◌≤◌, ◌<◌, ◌^◌, zero, suc, Bool, true, false, not, ◌||◌, List, [], ◌∷◌, length, get_or, Some, refl, sym, ◌∙◌, subst, arith, ◌==◌, max, nat_lt}
use Rattle.std.specs.Prelude.{position}
use Rattle.std.specs.List.{AllByRecursion, list_all, list_any, position_or_len}
use Rattle.std.specs.Str.{bytes_eq}
use Rattle.std.specs.Int.{bit_at}
use Rattle.std.proofs.lemmas.Bool.Decides.{nat_tests}
use Rattle.std.proofs.lemmas.Slice.Eq.{bytes_eq-Decides}
use Rattle.std.proofs.lemmas.Nat.Bits.{bit_at-zero, bit_at_or, bit_at-pow_same, bit_at-pow_other, bit_at-lt, same_from_bits_below}
use Rattle.alg_model.specs.Application.{has_mark}
use Rattle.alg_model.specs.Carriers.{distinct}
use Rattle.alg_model.specs.Formation.{are_distinct}
use Rattle.alg_model.specs.Texts.{members_from, members}
use Rattle.sig_text.specs.Shapes.{AreSmall}
use Rattle.sig_text.specs.Literals.{set_of}
use Rattle.sig_text.proofs.Meant.{both_true, set_below}

-- the members from a number on are that number, if it is there, and those from the next on
cases_of : (j count m : ℕ) (P : List ℕ → Type 0) → (bit_at m j ≡ 1 → P (j ∷ members_from (j + 1) count m)) → (bit_at m j ≡ 0 → P (members_from (j + 1) count m)) → P (members_from j (suc count) m)
cases_of j count m P f g = by (has_mark m j) refl
  where
    by : (b : Bool) → has_mark m j ≡ b → P (members_from j (suc count) m)
    by true h = rw h (f (grind (arith, nat_tests)))
    by false h = let l = bit_at-lt m j in let n : bit_at m j ≢ 1 = grind (arith, nat_tests) in rw h (g (omega arith))

bits_below : (count j m i : ℕ) → i < j → bit_at (set_of (members_from j count m)) i ≡ 0
bits_below zero j m i h = bit_at-zero i
bits_below (suc count) j m i h =
    let less : i < j + 1 = omega arith in
    let other : i ≢ j = omega arith in
    let rest = bits_below count (j + 1) m i less in
    cases_of j count m (λ ns. bit_at (set_of ns) i ≡ 0)
    (λ there. bit_at_or (2 ^ j) (set_of (members_from (j + 1) count m)) i ∙ rw (bit_at-pow_other j i other, rest) refl)
    (λ absent. rest)

bits_same : (count j m : ℕ) → bit_at (set_of (members_from j (suc count) m)) j ≡ bit_at m j
bits_same count j m =
    let less : j < j + 1 = omega arith in
    let rest = bits_below count (j + 1) m j less in
    cases_of j count m (λ ns. bit_at (set_of ns) j ≡ bit_at m j)
    (λ there. bit_at_or (2 ^ j) (set_of (members_from (j + 1) count m)) j ∙ rw (bit_at-pow_same j, rest, there) refl)
    (λ absent. rest ∙ sym absent)

bits_other : (count j m i : ℕ) → i ≢ j → bit_at (set_of (members_from (j + 1) count m)) i ≡ bit_at m i → bit_at (set_of (members_from j (suc count) m)) i ≡ bit_at m i
bits_other count j m i other rest =
    cases_of j count m (λ ns. bit_at (set_of ns) i ≡ bit_at m i)
    (λ there. bit_at_or (2 ^ j) (set_of (members_from (j + 1) count m)) i ∙ rw (bit_at-pow_other j i other) (largest (bit_at (set_of (members_from (j + 1) count m)) i) ∙ rest))
    (λ absent. rest)
  where
    largest : (n : ℕ) → max 0 n ≡ n
    largest n = omega arith

bits_by : (count j m i : ℕ) (b : Bool) → (i == j) ≡ b → j ≤ i → (j + 1 ≤ i → bit_at (set_of (members_from (j + 1) count m)) i ≡ bit_at m i) → bit_at (set_of (members_from j (suc count) m)) i ≡ bit_at m i
bits_by count j m i true e h more =
    let same : i ≡ j = grind (arith, nat_tests) in
    subst (λ x. bit_at (set_of (members_from j (suc count) m)) x ≡ bit_at m x) (sym same) (bits_same count j m)
bits_by count j m i false e h more =
    let other : i ≢ j = grind (arith, nat_tests) in
    bits_other count j m i other (more (omega arith))

bits_inside : (count j m i : ℕ) → j ≤ i → i < j + count → bit_at (set_of (members_from j count m)) i ≡ bit_at m i
bits_inside zero j m i h k = absurd (omega arith)
bits_inside (suc count) j m i h k = bits_by count j m i (i == j) refl h (λ l. bits_inside count (j + 1) m i l (omega arith))

-- all members are from the first number on, and below the last
members_within : (count j top m : ℕ) → j + count ≤ top → AllByRecursion (λ n. n < top) (members_from j count m)
members_within zero j top m h = tt
members_within (suc count) j top m h =
    let rest = members_within count (j + 1) top m (omega arith) in
    let p : j < top = omega arith in
    cases_of j count m (AllByRecursion (λ n. n < top)) (λ there. (p, rest)) (λ absent. rest)

pub members_below : (k m : ℕ) → AllByRecursion (λ n. n < k) (members k m)
members_below k m = members_within k 0 k m (omega arith)

pub below_small : (greatest k : ℕ) (ns : List ℕ) → k ≤ greatest → AllByRecursion (λ n. n < k) ns → AreSmall greatest ns
below_small greatest k [] h a = tt
below_small greatest k (n ∷ ns) h a = let p = a.0 in (omega arith, below_small greatest k ns h a.1)

pub below_tested : (k : ℕ) (ns : List ℕ) → AllByRecursion (λ n. n < k) ns → list_all (λ n. nat_lt n k) ns ≡ true
below_tested k [] a = refl
below_tested k (n ∷ ns) a = let p = a.0 in let t : nat_lt n k ≡ true = grind (arith, nat_tests) in rw t (below_tested k ns a.1)

not_among : (count j k m : ℕ) → k < j → list_any (λ n. n == k) (members_from j count m) ≡ false
not_among zero j k m h = refl
not_among (suc count) j k m h =
    let rest = not_among count (j + 1) k m (omega arith) in
    let p : (j == k) ≡ false = grind (arith, nat_tests) in
    cases_of j count m (λ ns. list_any (λ n. n == k) ns ≡ false) (λ there. rw p rest) (λ absent. rest)

distinct_from : (count j m : ℕ) → distinct (members_from j count m) ≡ true
distinct_from zero j m = refl
distinct_from (suc count) j m =
    let rest = distinct_from count (j + 1) m in
    let p = not_among count (j + 1) j m (omega arith) in
    cases_of j count m (λ ns. distinct ns ≡ true) (λ there. rw p rest) (λ absent. rest)

pub members_distinct : (k m : ℕ) → distinct (members k m) ≡ true
members_distinct k m = distinct_from k 0 m

-- a set is that of its members
pub set_members : (k m : ℕ) → m < 2 ^ k → set_of (members k m) ≡ m
set_members k m h = same_from_bits_below k (set_of (members k m)) m (set_below k (members k m) (members_below k m)) h (λ i l. bits_inside k 0 m i (omega arith) (omega arith))

-- the place of a name among names that differ
neither : (a b : Bool) → (a || b) ≡ false → (a ≡ false) × (b ≡ false)
neither true b h = absurd (cc)
neither false b h = (refl, h)

none_at : {X : Type 0} (p : X → Bool) (xs : List X) (k : ℕ) (d : X) → k < length xs → list_any p xs ≡ false → p (get_or xs k d) ≡ false
none_at p [] k d h a = absurd (omega arith)
none_at p (x ∷ xs) zero d h a = (neither (p x) (list_any p xs) a).0
none_at p (x ∷ xs) (suc k) d h a = none_at p xs k d (omega arith) (neither (p x) (list_any p xs) a).1

pub all_at : {X : Type 0} (p : X → Bool) (xs : List X) (k : ℕ) (d : X) → k < length xs → list_all p xs ≡ true → p (get_or xs k d) ≡ true
all_at p [] k d h a = absurd (omega arith)
all_at p (x ∷ xs) zero d h a = (both_true (p x) (list_all p xs) a).0
all_at p (x ∷ xs) (suc k) d h a = all_at p xs k d (omega arith) (both_true (p x) (list_all p xs) a).1

same_text : (w : List ℕ) → bytes_eq w w ≡ true
same_text w = (bytes_eq-Decides w w).1 refl

other_text : (w v : List ℕ) (b : Bool) → bytes_eq w v ≡ b → bytes_eq v w ≡ false → bytes_eq w v ≡ false
other_text w v false h k = h
other_text w v true h k =
    let e : w ≡ v = (bytes_eq-Decides w v).0 h in
    let t : bytes_eq v w ≡ true = (bytes_eq-Decides v w).1 (sym e) in
    absurd (cc)

not_is : (b : Bool) → not b ≡ true → b ≡ false
not_is true h = absurd (cc)
not_is false h = refl

place_at : {X : Type 0} (name_of : X → List ℕ) (xs : List X) (k : ℕ) (d : X) → k < length xs → are_distinct name_of xs ≡ true → position_or_len (λ x. bytes_eq (name_of x) (name_of (get_or xs k d))) xs ≡ k
place_at name_of [] k d h a = absurd (omega arith)
place_at name_of (x ∷ xs) zero d h a = rw (same_text (name_of x)) refl
place_at name_of (x ∷ xs) (suc k) d h a =
    let b = both_true (not (list_any (λ y. bytes_eq (name_of y) (name_of x)) xs)) (are_distinct name_of xs) a in
    let n = none_at (λ y. bytes_eq (name_of y) (name_of x)) xs k d (omega arith) (not_is (list_any (λ y. bytes_eq (name_of y) (name_of x)) xs) b.0) in
    let o = other_text (name_of x) (name_of (get_or xs k d)) (bytes_eq (name_of x) (name_of (get_or xs k d))) refl n in
    let i = place_at name_of xs k d (omega arith) b.1 in
    rw (o, i) (omega arith)

pub placed_at : {X : Type 0} (name_of : X → List ℕ) (xs : List X) (k : ℕ) (d : X) → k < length xs → are_distinct name_of xs ≡ true → position (λ x. bytes_eq (name_of x) (name_of (get_or xs k d))) xs ≡ Some k
placed_at name_of xs k d h a =
    let t : nat_lt k (length xs) ≡ true = grind (arith, nat_tests) in
    rw (place_at name_of xs k d h a, t) refl
