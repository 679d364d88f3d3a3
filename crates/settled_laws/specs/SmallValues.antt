-- Any two values of a carrier compare as two small ones do. Lemmas, so that proofs of other crates may cite them.
use Rattle.std.proofs.Common.{◌≡◌, ℕ, ◌<◌, ◌≤◌, Bool, true, false, if◌then◌else◌, nat_le, List, [], ◌∷◌, refl, arith}
use Rattle.std.proofs.lemmas.Bool.Decides.{nat_tests}
use Rattle.std.specs.List.{AllByRecursion}
use Rattle.std.specs.Ordering.{nat_cmp, ordering_reverse}
use Rattle.std.specs.declared.cmp.Ordering.{Ordering}
use Rattle.std.specs.declared.cmp.Ordering.TheVariants.{Equal}
use Rattle.alg_model.specs.Expressions.{PureCarrier, whole, up_to, down_from, seqs, simseqs, sets, one, named, pairs, sides}
use Rattle.alg_model.specs.Expressions.{PureValue, number, symbols, marks, unit, name, pair, first, second}
use Rattle.alg_model.specs.Carriers.{In, Order}
use Rattle.alg_model.specs.Bounds.{AtMost}
use Rattle.alg_model.specs.CarrierBounds.{CarrierAtMost}
use Rattle.settled_laws.specs.OrderTurns.{order_turns}
use Rattle.settled_laws.specs.SmallInstances.{small_number, small_beside}

-- a value compares to itself as equal
pub order_self : (c : PureCarrier) (v : PureValue) → Order c v v ≡ Equal
order_self c v = by (Order c v v) (order_turns c v v)
  where
    by : (o : Ordering) → o ≡ ordering_reverse o → o ≡ Equal
    by o e = grind arith

pub all_below : (k n : ℕ) (ns : List ℕ) → k ≤ n → AllByRecursion (λ m. m < k) ns → AllByRecursion (λ m. m ≤ n) ns
all_below k n [] h i = tt
all_below k n (m ∷ ns) h i = (omega (arith, i.0), all_below k n ns h i.1)

-- the value is in the carrier, and has no number above n
pub record IsSmallOf (n : ℕ) (c : PureCarrier) (v : PureValue) : Type 0 where
  pub value_in : In c v
  pub small : AtMost n v

whole_is_small : (n i j : ℕ) → 1 ≤ n → IsSmallOf n whole (number (small_number i j))
whole_is_small n i j some = by (nat_le i j)
  where
    by : (b : Bool) → IsSmallOf n whole (number (if b then 0 else 1))
    by true = record { value_in = tt; small = omega arith }
    by false = record { value_in = tt; small = omega arith }

pub beside_is_small : (n : ℕ) (c : PureCarrier) (u v : PureValue) → 1 ≤ n → CarrierAtMost n c → In c u → In c v → IsSmallOf n c (small_beside c u v)
beside_is_small n whole (number i) (number j) some h k l = whole_is_small n i j some
beside_is_small n (up_to top) (number i) v some h k l = record { value_in = k; small = omega arith }
beside_is_small n (down_from top) (number i) v some h k l = record { value_in = k; small = omega arith }
beside_is_small n (seqs m) (symbols is) v some h k l = record { value_in = k; small = all_below m n is h k }
beside_is_small n (simseqs m) (symbols is) v some h k l = record { value_in = k; small = all_below m n is h k.0 }
beside_is_small n (sets m) (marks i) v some h k l = record { value_in = k; small = tt }
beside_is_small n one unit v some h k l = record { value_in = k; small = tt }
beside_is_small n (named names ranks) (name i) v some h k l = record { value_in = k; small = tt }
beside_is_small n (pairs c d) (pair s t) (pair x y) some h k l =
    let p = beside_is_small n c s x some h.0 k.0 l.0 in
    let q = beside_is_small n d t y some h.1 k.1 l.1 in
    record { value_in = (p.value_in, q.value_in); small = (p.small, q.small) }
beside_is_small n (sides c d) (first s) (first x) some h k l =
    let p = beside_is_small n c s x some h.0 k l in
    record { value_in = p.value_in; small = p.small }
beside_is_small n (sides c d) (first s) (second y) some h k l =
    let p = beside_is_small n c s s some h.0 k k in
    record { value_in = p.value_in; small = p.small }
beside_is_small n (sides c d) (second t) (first x) some h k l =
    let q = beside_is_small n d t t some h.1 k k in
    record { value_in = q.value_in; small = q.small }
beside_is_small n (sides c d) (second t) (second y) some h k l =
    let q = beside_is_small n d t y some h.1 k l in
    record { value_in = q.value_in; small = q.small }
beside_is_small n whole (number i) _ some h k l = absurd l
beside_is_small n (pairs c d) (pair s t) _ some h k l = absurd l
beside_is_small n (sides c d) (first s) _ some h k l = absurd l
beside_is_small n (sides c d) (second t) _ some h k l = absurd l
beside_is_small n _ _ _ some h k l = absurd k

numbers_compare : (i j : ℕ) → nat_cmp (small_number i j) (small_number j i) ≡ nat_cmp i j
numbers_compare i j = grind (arith, nat_tests)

-- any two compare as two small ones do
pub beside_compares : (c : PureCarrier) (u v : PureValue) → In c u → In c v → Order c (small_beside c u v) (small_beside c v u) ≡ Order c u v
beside_compares whole (number i) (number j) k l = numbers_compare i j
beside_compares (up_to top) u v k l = refl
beside_compares (down_from top) u v k l = refl
beside_compares (seqs m) u v k l = refl
beside_compares (simseqs m) u v k l = refl
beside_compares (sets m) u v k l = refl
beside_compares one u v k l = refl
beside_compares (named names ranks) u v k l = refl
beside_compares (pairs c d) (pair s t) (pair x y) k l = rw (beside_compares c s x k.0 l.0, beside_compares d t y k.1 l.1) refl
beside_compares (sides c d) (first s) (first x) k l = beside_compares c s x k l
beside_compares (sides c d) (first s) (second y) k l = refl
beside_compares (sides c d) (second t) (first x) k l = refl
beside_compares (sides c d) (second t) (second y) k l = beside_compares d t y k l
beside_compares whole (number i) _ k l = absurd l
beside_compares (pairs c d) (pair s t) _ k l = absurd l
beside_compares (sides c d) (first s) _ k l = absurd l
beside_compares (sides c d) (second t) _ k l = absurd l
beside_compares _ _ _ k l = absurd k
