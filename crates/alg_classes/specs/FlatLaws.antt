-- Laws of flat carriers and of worse values, for the proofs of the crates above.
use Rattle.std.proofs.Common.{◌≡◌, ℕ, zero, suc, ◌+◌, ◌-◌, ◌<◌, ◌≤◌, refl, sym, ap, ◌∙◌, subst, ◌⊎◌, inl, inr, List, [], ◌∷◌, ◌++◌, length, Bool, true, false, ◌||◌, ◌&&◌, ◌==◌, if◌then◌else◌, ⊎_elim, arith, length-append}
use Rattle.std.specs.Prelude.{nat_lt, slice_index}
use Rattle.std.specs.Cmp.{nat_cmp_is}
use Rattle.std.specs.List.{AllByRecursion, list_any, IsDistinct}
use Rattle.std.specs.Ordering.{nat_cmp, ordering_reverse, ordering_then}
use Rattle.std.specs.declared.cmp.Ordering.{Ordering}
use Rattle.std.specs.declared.cmp.Ordering.TheVariants.{Less, Equal, Greater}
use Rattle.std.proofs.lemmas.Bool.Decides.{nat_tests}
use Rattle.std.proofs.lemmas.Cmp.{ranked}
use Rattle.std.proofs.lemmas.Nat.{pow_pos}
use Rattle.std.proofs.lemmas.Map.Steps.{length-le_from_distinct_below}
use Rattle.alg_model.specs.Numbers.{max_instance_number, max_label_number}
use Rattle.alg_model.specs.Expressions.{PureCarrier, whole, up_to, down_from, seqs, simseqs, sets, one, named, pairs, sides}
use Rattle.alg_model.specs.Expressions.{PureValue, number, symbols, name, pair, first, second}
use Rattle.alg_model.specs.Carriers.{In, Order, distinct}
use Rattle.alg_model.specs.Formation.{IsCarrier, are_values, are_ranks, ranks_rise}
use Rattle.alg_model.specs.BoundLaws.{all_and_one, all_at_most_more, at_most_more}
use Rattle.alg_model.specs.Bounds.{AtMost}
use Rattle.alg_model.specs.ImageLaws.{distinct_and_one}
use Rattle.alg_model.specs.PreferenceLaws.{total_preorder}
use Rattle.alg_classes.specs.Classes.{IsTruthOf}
use Rattle.alg_classes.specs.Flat.{IsFlat, IsWorse, HasWorse, last_rank, is_flat, has_worse, numbers_below, best, worse_than}

-- what comparisons and tests of numbers say
cmp_less : (m n : ℕ) → m < n → nat_cmp m n ≡ Less
cmp_less m n h = sym (nat_cmp_is m n Less h)

less_of_cmp : (m n : ℕ) → nat_cmp m n ≡ Less → m < n
less_of_cmp m n e = ranked m n Less (sym e)

cmp_equal : (m n : ℕ) → m ≡ n → nat_cmp m n ≡ Equal
cmp_equal m n h = sym (nat_cmp_is m n Equal h)

less_of_test : (m n : ℕ) → nat_lt m n ≡ true → m < n
less_of_test m n e = grind (arith, nat_tests)

not_less_of_test : (m n : ℕ) → nat_lt m n ≡ false → n ≤ m
not_less_of_test m n e = grind (arith, nat_tests)

test_of_less : (m n : ℕ) → m < n → nat_lt m n ≡ true
test_of_less m n e = grind (arith, nat_tests)

zero_of_test : (n : ℕ) → (n == 0) ≡ true → n ≡ 0
zero_of_test n e = grind (arith, nat_tests)

some_of_test : (n : ℕ) → (n == 0) ≡ false → 0 < n
some_of_test n e = grind (arith, nat_tests)

both_hold : (a b : Bool) → (a && b) ≡ true → (a ≡ true) × (b ≡ true)
both_hold true true h = (refl, refl)
both_hold true false h = absurd (cc)
both_hold false b h = absurd (cc)

none_holds : (a b : Bool) → (a || b) ≡ false → (a ≡ false) × (b ≡ false)
none_holds false false h = (refl, refl)
none_holds false true h = absurd (cc)
none_holds true b h = absurd (cc)

then_less : (o p : Ordering) → ordering_then o p ≡ Less → (o ≡ Less) ⊎ ((o ≡ Equal) × (p ≡ Less))
then_less Less p h = inl refl
then_less Equal p h = inr (refl, h)
then_less Greater p h = absurd (cc)

-- a value is equivalent to itself
same_reversed : (o : Ordering) → o ≡ ordering_reverse o → o ≡ Equal
same_reversed Less e = absurd (cc)
same_reversed Equal e = refl
same_reversed Greater e = absurd (cc)

pub equivalent_itself : (c : PureCarrier) (v : PureValue) → In c v → Order c v v ≡ Equal
equivalent_itself c v i = same_reversed (Order c v v) ((total_preorder c).flip v v i i)

-- the ranks of a table: the first is 0, none is less than one before it
ranks_above : (rank : ℕ) (ranks : List ℕ) → ranks_rise rank ranks ≡ true → (k : ℕ) → k < length ranks → rank ≤ slice_index ranks k
ranks_above rank [] h k i = absurd (omega arith)
ranks_above rank (r ∷ ranks) h zero i = grind (arith, nat_tests)
ranks_above rank (r ∷ ranks) h (suc k) i =
    let p : rank ≤ r = grind (arith, nat_tests) in
    let q : ranks_rise r ranks ≡ true = grind (arith, nat_tests) in
    let s = ranks_above r ranks q k (omega arith) in
    omega arith

ranks_in_order : (rank : ℕ) (ranks : List ℕ) → ranks_rise rank ranks ≡ true → (j k : ℕ) → j ≤ k → k < length ranks → slice_index ranks j ≤ slice_index ranks k
ranks_in_order rank [] h j k l i = absurd (omega arith)
ranks_in_order rank (r ∷ ranks) h zero zero l i = omega arith
ranks_in_order rank (r ∷ ranks) h zero (suc k) l i =
    let q : ranks_rise r ranks ≡ true = grind (arith, nat_tests) in
    ranks_above r ranks q k (omega arith)
ranks_in_order rank (r ∷ ranks) h (suc j) zero l i = absurd (omega arith)
ranks_in_order rank (r ∷ ranks) h (suc j) (suc k) l i =
    let q : ranks_rise r ranks ≡ true = grind (arith, nat_tests) in
    ranks_in_order r ranks q j k (omega arith) (omega arith)

from_first : (ranks : List ℕ) → are_ranks ranks ≡ true → ranks_rise 0 ranks ≡ true
from_first [] h = refl
from_first (r ∷ ranks) h = grind (arith, nat_tests)

first_rank : (ranks : List ℕ) → are_ranks ranks ≡ true → 0 < length ranks → slice_index ranks 0 ≡ 0
first_rank [] h i = absurd (omega arith)
first_rank (r ∷ ranks) h i = grind (arith, nat_tests)

rank_of_last : (ranks : List ℕ) (k : ℕ) → are_ranks ranks ≡ true → k < length ranks → slice_index ranks k ≤ last_rank ranks
rank_of_last ranks k h i = ranks_in_order 0 ranks (from_first ranks h) k (length ranks - 1) (omega arith) (omega arith)

-- what the rules say of a table's values
pub values_are : (names : List (List ℕ)) (ranks : List ℕ) → are_values names ranks ≡ true
    → (0 < length names) × (length ranks ≡ length names) × (are_ranks ranks ≡ true)
values_are names ranks h = (grind (arith, nat_tests), grind (arith, nat_tests), grind (arith, nat_tests))

-- symbols of which no two are equal are no more than their bound
apart_from : (n : ℕ) (ns : List ℕ) → list_any (λ m. m == n) ns ≡ false → AllByRecursion (λ m. (n == m) ≡ false) ns
apart_from n [] h = tt
apart_from n (m ∷ ns) h =
    let p = none_holds (m == n) (list_any (λ m. m == n) ns) h in
    (other_way p.0, apart_from n ns p.1)
  where
    other_way : (m == n) ≡ false → (n == m) ≡ false
    other_way e = grind (arith, nat_tests)

all_distinct : (ns : List ℕ) → distinct ns ≡ true → IsDistinct (λ m n. m == n) ns
unfolding IsDistinct
all_distinct [] h = tt
all_distinct (n ∷ ns) h =
    let p : list_any (λ m. m == n) ns ≡ false = grind arith in
    let q : distinct ns ≡ true = grind arith in
    (apart_from n ns p, all_distinct ns q)

below_any : (bound : ℕ) (ns : List ℕ) → AllByRecursion (λ n. n < bound) ns → (q : ℕ) → list_any (λ m. q == m) ns ≡ true → q < bound
below_any bound [] b q h = absurd (cc)
below_any bound (n ∷ ns) b q h = by (q == n) refl (below_any bound ns b.1 q)
  where
    by : (t : Bool) → (q == n) ≡ t → (list_any (λ m. q == m) ns ≡ true → q < bound) → q < bound
    by true e r = let p : n < bound = b.0 in grind (arith, nat_tests)
    by false e r = let a : list_any (λ m. q == m) ns ≡ true = grind arith in r a

few_when_distinct : (bound : ℕ) (ns : List ℕ) → AllByRecursion (λ n. n < bound) ns → distinct ns ≡ true → length ns ≤ bound
few_when_distinct bound ns b d = length-le_from_distinct_below ns bound (all_distinct ns d) (below_any bound ns b)

-- the numbers below a bound, and which they aren't
pub all_below : (m n : ℕ) → m ≤ n → AllByRecursion (λ k. k < n) (numbers_below m)
all_below zero n h = tt
all_below (suc m) n h = all_and_one (λ k. k < n) (numbers_below m) m (all_below m n (omega arith)) (omega arith)

-- a number that isn't below them isn't among them
not_among : (ns : List ℕ) (m : ℕ) → AllByRecursion (λ k. k < m) ns → list_any (λ k. k == m) ns ≡ false
not_among [] m h = refl
not_among (n ∷ ns) m h =
    let p : n < m = h.0 in
    let q = not_among ns m h.1 in
    grind (arith, nat_tests)

pub distinct_below : (n : ℕ) → distinct (numbers_below n) ≡ true
distinct_below zero = refl
distinct_below (suc n) = distinct_and_one (numbers_below n) n (distinct_below n) (not_among (numbers_below n) n (all_below n n (omega arith)))

pub length_below : (n : ℕ) → length (numbers_below n) ≡ n
length_below zero = refl
length_below (suc n) = let e = length_below n in length-append (numbers_below n) (n ∷ []) ∙ omega arith

-- the best value is a value
pub best_in : (c : PureCarrier) → IsCarrier c → In c (best c)
best_in whole is = tt
best_in (up_to top) is = omega arith
best_in (down_from top) is = omega arith
best_in (seqs k) is = tt
best_in (simseqs k) is = (tt, refl)
best_in (sets k) is = pow_pos k
best_in one is = tt
best_in (named names ranks) is = (values_are names ranks is).0
best_in (pairs c d) is = (best_in c is.0, best_in d is.1)
best_in (sides c d) is = best_in c is.0

-- none is preferred to it
pub best_is_best : (c : PureCarrier) (v : PureValue) → IsCarrier c → In c v → ¬ (Order c v (best c) ≡ Less)
best_is_best whole (number n) is i e = let l = less_of_cmp n 0 e in absurd (omega arith)
best_is_best (up_to top) (number n) is i e = let l = less_of_cmp n 0 e in absurd (omega arith)
best_is_best (down_from top) (number n) is i e = let l = less_of_cmp top n e in absurd (omega arith)
best_is_best (seqs k) (symbols ns) is i e = let l = less_of_cmp (length ns) 0 e in absurd (omega arith)
best_is_best (simseqs k) (symbols ns) is i e = let l = less_of_cmp (length ns) 0 e in absurd (omega arith)
best_is_best (sets k) v is i e = cc
best_is_best one v is i e = cc
best_is_best (named names ranks) (name k) is i e =
    let values = values_are names ranks is in
    let zero_first = first_rank ranks values.2 (omega (arith, values.0, values.1)) in
    let l = less_of_cmp (slice_index ranks k) (slice_index ranks 0) e in
    absurd (omega arith)
best_is_best (pairs c d) (pair u v) is i e =
    ⊎_elim (best_is_best c u is.0 i.0) (λ s. best_is_best d v is.1 i.1 s.1) (then_less (Order c u (best c)) (Order d v (best d)) e)
best_is_best (sides c d) (first u) is i e = best_is_best c u is.0 i e
best_is_best (sides c d) (second v) is i e = cc
best_is_best _ _ is i e = absurd i

longer_by_one : (ns : List ℕ) → length ns < length (ns ++ 0 ∷ [])
longer_by_one ns = let e = length-append ns (0 ∷ []) in omega arith

worse_pair : (c d : PureCarrier) (u v : PureValue) → In c u → In d v → (b : Bool)
    → (b ≡ true → IsWorse c u (worse_than c u)) → (has_worse d v ≡ true → IsWorse d v (worse_than d v)) → (b || has_worse d v) ≡ true
    → IsWorse (pairs c d) (pair u v) (if b then pair (worse_than c u) v else pair u (worse_than d v))
worse_pair c d u v i j true f g h = let w = f refl in ((w.0, j), rw w.1 (refl {a = Less}))
worse_pair c d u v i j false f g h = let w = g h in ((i, w.0), rw (equivalent_itself c u i, w.1) (refl {a = Less}))

-- where some value is worse, this one is
pub worse_than_is_worse : (c : PureCarrier) (v : PureValue) → IsCarrier c → In c v → has_worse c v ≡ true → IsWorse c v (worse_than c v)
worse_than_is_worse whole (number n) is i h = (tt, cmp_less n (n + 1) (omega arith))
worse_than_is_worse (up_to top) (number n) is i h = (omega arith, cmp_less n top (less_of_test n top h))
worse_than_is_worse (down_from top) (number n) is i h = (omega arith, cmp_less 0 n (less_of_test 0 n h))
worse_than_is_worse (seqs k) (symbols ns) is i h =
    (all_and_one (λ n. n < k) ns 0 i is, cmp_less (length ns) (length (ns ++ 0 ∷ [])) (longer_by_one ns))
worse_than_is_worse (simseqs k) (symbols ns) is i h =
    let l = less_of_test (length ns) k h in
    let e = length_below k in
    ((all_below k k (omega arith), distinct_below k), cmp_less (length ns) (length (numbers_below k)) (omega arith))
worse_than_is_worse (sets k) v is i h = absurd (cc)
worse_than_is_worse one v is i h = absurd (cc)
worse_than_is_worse (named names ranks) (name k) is i h =
    let values = values_are names ranks is in
    let same = ap (λ n. slice_index ranks (n - 1)) values.1 in (
      omega (arith, values.0),
      cmp_less (slice_index ranks k) (slice_index ranks (length names - 1))
          (subst (λ r. slice_index ranks k < r) same (less_of_test (slice_index ranks k) (last_rank ranks) h)),
    )
worse_than_is_worse (pairs c d) (pair u v) is i h =
    worse_pair c d u v i.0 i.1 (has_worse c u) (worse_than_is_worse c u is.0 i.0) (worse_than_is_worse d v is.1 i.1) h
worse_than_is_worse (sides c d) (first u) is i h = (best_in d is.1, refl)
worse_than_is_worse (sides c d) (second v) is i h = worse_than_is_worse d v is.1 i h
worse_than_is_worse _ _ is i h = absurd i

-- where none is, none is
pub none_is_worse : (c : PureCarrier) (v w : PureValue) → IsCarrier c → In c v → In c w → has_worse c v ≡ false → ¬ (Order c v w ≡ Less)
none_is_worse whole v w is i j h e = cc
none_is_worse (up_to top) (number m) (number n) is i j h e =
    let t = not_less_of_test m top h in
    let l = less_of_cmp m n e in
    absurd (omega arith)
none_is_worse (down_from top) (number m) (number n) is i j h e =
    let t = not_less_of_test 0 m h in
    let l = less_of_cmp n m e in
    absurd (omega arith)
none_is_worse (seqs k) v w is i j h e = cc
none_is_worse (simseqs k) (symbols ms) (symbols ns) is i j h e =
    let t = not_less_of_test (length ms) k h in
    let l = less_of_cmp (length ms) (length ns) e in
    let few = few_when_distinct k ns j.0 j.1 in
    absurd (omega arith)
none_is_worse (sets k) v w is i j h e = cc
none_is_worse one v w is i j h e = cc
none_is_worse (named names ranks) (name m) (name n) is i j h e =
    let values = values_are names ranks is in
    let t = not_less_of_test (slice_index ranks m) (last_rank ranks) h in
    let l = less_of_cmp (slice_index ranks m) (slice_index ranks n) e in
    let last = rank_of_last ranks n values.2 (omega (arith, values.1)) in
    absurd (omega arith)
none_is_worse (pairs c d) (pair u v) (pair x y) is i j h e =
    let none = none_holds (has_worse c u) (has_worse d v) h in
    ⊎_elim (none_is_worse c u x is.0 i.0 j.0 none.0) (λ s. none_is_worse d v y is.1 i.1 j.1 none.1 s.1)
    (then_less (Order c u x) (Order d v y) e)
none_is_worse (sides c d) (first u) w is i j h e = cc
none_is_worse (sides c d) (second v) (first x) is i j h e = cc
none_is_worse (sides c d) (second v) (second y) is i j h e = none_is_worse d v y is.1 i j h e
none_is_worse (up_to top) (number m) _ is i j h e = absurd j
none_is_worse (down_from top) (number m) _ is i j h e = absurd j
none_is_worse (simseqs k) (symbols ms) _ is i j h e = absurd j
none_is_worse (named names ranks) (name m) _ is i j h e = absurd j
none_is_worse (pairs c d) (pair u v) _ is i j h e = absurd j
none_is_worse (sides c d) (second v) _ is i j h e = absurd j
none_is_worse _ _ _ is i j h e = absurd i

-- the values of a flat carrier are equivalent
all_zero : (m n : ℕ) → m ≤ 0 → n ≤ 0 → nat_cmp m n ≡ Equal
all_zero m n i j = cmp_equal m n (omega arith)

pub flat_is_equivalent : (c : PureCarrier) (u v : PureValue) → IsCarrier c → is_flat c ≡ true → In c u → In c v → Order c u v ≡ Equal
flat_is_equivalent whole u v is h i j = absurd (cc)
flat_is_equivalent (up_to top) (number m) (number n) is h i j = let e = zero_of_test top h in all_zero m n (omega arith) (omega arith)
flat_is_equivalent (down_from top) (number m) (number n) is h i j = let e = zero_of_test top h in all_zero n m (omega arith) (omega arith)
flat_is_equivalent (seqs k) u v is h i j = absurd (cc)
flat_is_equivalent (simseqs k) u v is h i j = absurd (cc)
flat_is_equivalent (sets k) u v is h i j = refl
flat_is_equivalent one u v is h i j = refl
flat_is_equivalent (named names ranks) (name m) (name n) is h i j =
    let values = values_are names ranks is in
    let e = zero_of_test (last_rank ranks) h in
    let p = rank_of_last ranks m values.2 (omega (arith, values.1)) in
    let q = rank_of_last ranks n values.2 (omega (arith, values.1)) in
    all_zero (slice_index ranks m) (slice_index ranks n) (omega arith) (omega arith)
flat_is_equivalent (pairs c d) (pair u v) (pair x y) is h i j =
    let both = both_hold (is_flat c) (is_flat d) h in
    rw (flat_is_equivalent c u x is.0 both.0 i.0 j.0, flat_is_equivalent d v y is.1 both.1 i.1 j.1) refl
flat_is_equivalent (sides c d) u v is h i j = absurd (cc)
flat_is_equivalent (up_to top) (number m) _ is h i j = absurd j
flat_is_equivalent (down_from top) (number m) _ is h i j = absurd j
flat_is_equivalent (named names ranks) (name m) _ is h i j = absurd j
flat_is_equivalent (pairs c d) (pair u v) _ is h i j = absurd j
flat_is_equivalent _ _ _ is h i j = absurd i

-- where the carrier isn't flat, some value is worse than the best
one_of : (a b p q : Bool) → (a ≡ false → p ≡ true) → (b ≡ false → q ≡ true) → (a && b) ≡ false → (p || q) ≡ true
one_of false b p q f g h = rw (f refl) refl
one_of true b true q f g h = refl
one_of true b false q f g h = g h

pub some_is_worse : (c : PureCarrier) → IsCarrier c → is_flat c ≡ false → has_worse c (best c) ≡ true
some_is_worse whole is h = refl
some_is_worse (up_to top) is h = test_of_less 0 top (some_of_test top h)
some_is_worse (down_from top) is h = test_of_less 0 top (some_of_test top h)
some_is_worse (seqs k) is h = refl
some_is_worse (simseqs k) is h = test_of_less 0 k is.0
some_is_worse (sets k) is h = absurd (cc)
some_is_worse one is h = absurd (cc)
some_is_worse (named names ranks) is h =
    let values = values_are names ranks is in
    let zero_first = first_rank ranks values.2 (omega (arith, values.0, values.1)) in
    test_of_less (slice_index ranks 0) (last_rank ranks) (let l = some_of_test (last_rank ranks) h in omega arith)
some_is_worse (pairs c d) is h =
    one_of (is_flat c) (is_flat d) (has_worse c (best c)) (has_worse d (best d)) (some_is_worse c is.0) (some_is_worse d is.1) h
some_is_worse (sides c d) is h = refl

-- the tests find exactly whether the carrier is flat, and whether a value has a worse one
true_unless_false : (b : Bool) → ¬ (b ≡ false) → b ≡ true
true_unless_false true n = refl
true_unless_false false n = absurd (n refl)

pub flat_exactly : (c : PureCarrier) → IsCarrier c → IsTruthOf (is_flat c) (IsFlat c)
flat_exactly c is = (
  λ e u v i j. flat_is_equivalent c u v is e i j,
  λ flat. true_unless_false (is_flat c) (λ e.
      let w = worse_than_is_worse c (best c) is (best_in c is) (some_is_worse c is e) in
      let same = flat (best c) (worse_than c (best c)) (best_in c is) w.0 in
      let less = w.1 in
      cc),
)

pub worse_exactly : (c : PureCarrier) (v : PureValue) → IsCarrier c → In c v → IsTruthOf (has_worse c v) (HasWorse c v)
worse_exactly c v is i = (
  λ e. (worse_than c v, worse_than_is_worse c v is i e),
  λ w. true_unless_false (has_worse c v) (λ e. none_is_worse c v w.0 is i w.1.0 e w.1.1),
)

-- the numbers of those below a bound, of a sequence that is longer by one, and of two parts
pub below_at_most : (m n : ℕ) → m ≤ n → AtMost n (symbols (numbers_below m))
below_at_most zero n h = tt
below_at_most (suc m) n h = all_and_one (λ k. k ≤ n) (numbers_below m) m (below_at_most m n (omega arith)) (omega arith)

pub longer_at_most : (m n : ℕ) (ns : List ℕ) → m ≤ n → AtMost m (symbols ns) → AtMost n (symbols (ns ++ 0 ∷ []))
longer_at_most m n ns h a = all_and_one (λ k. k ≤ n) ns 0 (all_at_most_more m n ns h a) (omega arith)

-- a number of a text is a number of an instance
pub value_fits : (v : PureValue) → AtMost max_label_number v → AtMost max_instance_number v
value_fits v a = at_most_more max_label_number max_instance_number v (omega arith) a
