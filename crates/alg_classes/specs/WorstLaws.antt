-- Laws of the worst value of a carrier and of its bounds, for the proofs of the crates above; and of the constants:
-- the profile of each is that of the best value or that of the worst.
use Rattle.std.proofs.Common.{◌≡◌, ℕ, refl, sym, ap, ◌∙◌, subst, ◌⊎◌, inl, inr, ⊎_elim, ◌-◌, ◌<◌, ◌≤◌, List, length, Bool, true, false, ◌||◌, Option, Some, None, option_map, arith}
use Rattle.std.specs.Prelude.{nat_lt, slice_index}
use Rattle.std.specs.Option.{IfSome}
use Rattle.std.specs.declared.cmp.Ordering.TheVariants.{Less, Equal}
use Rattle.std.proofs.lemmas.Bool.Decides.{nat_tests}
use Rattle.std.proofs.lemmas.Nat.{pow_pos}
use Rattle.std.proofs.lemmas.Option.{same_Some, none-some}
use Rattle.alg_model.specs.declared.edition.Edition.{Edition}
use Rattle.alg_model.specs.Expressions.{Expression}
use Rattle.alg_model.specs.Expressions.{PureCarrier, whole, up_to, down_from, seqs, simseqs, sets, one, named, pairs, sides}
use Rattle.alg_model.specs.Expressions.{PureValue, pair, first, second}
use Rattle.alg_model.specs.Carriers.{carrier_of, In, Order}
use Rattle.alg_model.specs.Application.{both}
use Rattle.alg_model.specs.Bounds.{AtMost, ExpressionAtMost, greatest_number}
use Rattle.alg_model.specs.CarrierBounds.{CarrierAtMost, carrier_at_most}
use Rattle.alg_model.specs.Formation.{IsCarrier}
use Rattle.alg_model.specs.PreferenceLaws.{each_pair, each_side}
use Rattle.alg_classes.specs.Constants.{constant_bits, constant_profile}
use Rattle.alg_classes.specs.Flat.{is_flat, has_worse, last_rank, numbers_below, best, worse_than}
use Rattle.alg_classes.specs.FlatLaws.{values_are, all_below, distinct_below, length_below, below_at_most, best_in, worse_than_is_worse, flat_is_equivalent, some_is_worse, worse_exactly}
use Rattle.alg_classes.specs.Worst.{worst, IsWorstIfAny, IsWithin}

-- the same as a worst value's law, said by the test
abbrev pub IsWorstByTest : PureCarrier → Option PureValue → Type 0
IsWorstByTest c None = (v : PureValue) → In c v → has_worse c v ≡ true
IsWorstByTest c (Some w) = In c w × (has_worse c w ≡ false)

not_above : (m n : ℕ) → n ≤ m → nat_lt m n ≡ false
not_above m n h = grind (arith, nat_tests)

or_true : (b c : Bool) → c ≡ true → (b || c) ≡ true
or_true true c h = refl
or_true false c h = h

worst_pair : (c d : PureCarrier) (o p : Option PureValue) → IsWorstByTest c o → IsWorstByTest d p → IsWorstByTest (pairs c d) (both o p)
worst_pair c d (Some u) (Some v) h i = ((h.0, i.0), rw (h.1, i.1) refl)
worst_pair c d (Some u) None h i = λ w j. each_pair c d (λ w. has_worse (pairs c d) w ≡ true) (λ x y k l. or_true (has_worse c x) (has_worse d y) (i y l)) w j
worst_pair c d None p h i = λ w j. each_pair c d (λ w. has_worse (pairs c d) w ≡ true) (λ x y k l. rw (h x k) refl) w j

worst_side : (c d : PureCarrier) (o : Option PureValue) → IsWorstByTest d o → IsWorstByTest (sides c d) (option_map second o)
worst_side c d (Some v) h = h
worst_side c d None h = λ w j. each_side c d (λ w. has_worse (sides c d) w ≡ true) (λ u k. refl) (λ v k. h v k) w j

worst_name : (names : List (List ℕ)) (ranks : List ℕ) → length ranks ≡ length names → slice_index ranks (length names - 1) ≡ last_rank ranks
worst_name names ranks e = ap (λ n. slice_index ranks (n - 1)) (sym e)

pub worst_by_test : (c : PureCarrier) → IsCarrier c → IsWorstByTest c (worst c)
worst_by_test whole is = λ v i. refl
worst_by_test (up_to top) is = (omega arith, not_above top top (omega arith))
worst_by_test (down_from top) is = (omega arith, refl)
worst_by_test (seqs k) is = λ v i. refl
worst_by_test (simseqs k) is =
    let e = length_below k in
    ((all_below k k (omega arith), distinct_below k), not_above (length (numbers_below k)) k (omega arith))
worst_by_test (sets k) is = (pow_pos k, refl)
worst_by_test one is = (tt, refl)
worst_by_test (named names ranks) is =
    let values = values_are names ranks is in
    let e = worst_name names ranks values.1 in
    (omega (arith, values.0), not_above (slice_index ranks (length names - 1)) (last_rank ranks) (omega arith))
worst_by_test (pairs c d) is = worst_pair c d (worst c) (worst d) (worst_by_test c is.0) (worst_by_test d is.1)
worst_by_test (sides c d) is = worst_side c d (worst d) (worst_by_test d is.1)

by_test : (c : PureCarrier) (o : Option PureValue) → IsCarrier c → IsWorstByTest c o → IsWorstIfAny c o
by_test c None is h = λ v i. (worse_exactly c v is i).0 (h v i)
by_test c (Some w) is h = (h.0, λ worse. let e = (worse_exactly c w is h.0).1 worse in let f = h.1 in cc)

-- it is the worst
pub worst_is_worst : (c : PureCarrier) → IsCarrier c → IsWorstIfAny c (worst c)
worst_is_worst c is = by_test c (worst c) is (worst_by_test c is)

-- The numbers of both.

best_at_most : (n : ℕ) (c : PureCarrier) → CarrierAtMost n c → AtMost n (best c)
best_at_most n whole h = omega arith
best_at_most n (up_to top) h = omega arith
best_at_most n (down_from top) h = h
best_at_most n (seqs k) h = tt
best_at_most n (simseqs k) h = tt
best_at_most n (sets k) h = tt
best_at_most n one h = tt
best_at_most n (named names ranks) h = tt
best_at_most n (pairs c d) h = (best_at_most n c h.0, best_at_most n d h.1)
best_at_most n (sides c d) h = best_at_most n c h.0

both_at_most : (n : ℕ) (o p : Option PureValue) → IfSome o (AtMost n) → IfSome p (AtMost n) → IfSome (both o p) (AtMost n)
both_at_most n (Some u) (Some v) h i = (h, i)
both_at_most n (Some u) None h i = tt
both_at_most n None p h i = tt

second_at_most : (n : ℕ) (o : Option PureValue) → IfSome o (AtMost n) → IfSome (option_map second o) (AtMost n)
second_at_most n (Some v) h = h
second_at_most n None h = tt

worst_at_most : (n : ℕ) (c : PureCarrier) → CarrierAtMost n c → IfSome (worst c) (AtMost n)
worst_at_most n whole h = tt
worst_at_most n (up_to top) h = h
worst_at_most n (down_from top) h = omega arith
worst_at_most n (seqs k) h = tt
worst_at_most n (simseqs k) h = below_at_most k n h
worst_at_most n (sets k) h = tt
worst_at_most n one h = tt
worst_at_most n (named names ranks) h = tt
worst_at_most n (pairs c d) h = both_at_most n (worst c) (worst d) (worst_at_most n c h.0) (worst_at_most n d h.1)
worst_at_most n (sides c d) h = second_at_most n (worst d) (worst_at_most n d h.1)

pub best_within : (c : PureCarrier) → IsWithin c (best c)
best_within c n h = best_at_most n c h

pub worst_within : (c : PureCarrier) (w : PureValue) → worst c ≡ Some w → IsWithin c w
worst_within c w e n h = subst (λ o. IfSome o (AtMost n)) e (worst_at_most n c h)

-- a value whose numbers are among those of an algebra's carrier has none above its edition's greatest
pub within_edition : (a : Expression) (e : Edition) (c : PureCarrier) (v : PureValue) → ExpressionAtMost (greatest_number e) a → c ≡ carrier_of a
    → IsWithin c v → AtMost (greatest_number e) v
within_edition a e c v bound same within =
    within (greatest_number e) (subst (CarrierAtMost (greatest_number e)) (sym same) (carrier_at_most (greatest_number e) a bound))

-- The constants.

-- where some value has a worse one, the best has
best_has_worse : (c : PureCarrier) (v : PureValue) → IsCarrier c → In c v → has_worse c v ≡ true → (b : Bool) → is_flat c ≡ b → has_worse c (best c) ≡ true
best_has_worse c v is i h true e =
    let w = worse_than_is_worse c v is i h in
    let same = flat_is_equivalent c v (worse_than c v) is e i w.0 in
    let less = w.1 in
    absurd (cc)
best_has_worse c v is i h false e = some_is_worse c is e

same_profile : (c : PureCarrier) (v w : PureValue) (b : Bool) → has_worse c v ≡ b → has_worse c w ≡ b → constant_profile c v ≡ constant_profile c w
same_profile c v w b e f = ap (constant_bits (is_flat c)) (e ∙ sym f)

-- the constant has the profile of the best value or that of the worst
abbrev pub IsAsBestOrWorst : PureCarrier → PureValue → Type 0
IsAsBestOrWorst c v = (constant_profile c v ≡ constant_profile c (best c))
    ⊎ ((w : PureValue) × (worst c ≡ Some w) × (constant_profile c v ≡ constant_profile c w))

as_worst : (c : PureCarrier) (v : PureValue) → In c v → has_worse c v ≡ false → (o : Option PureValue) → worst c ≡ o → IsWorstByTest c o → IsAsBestOrWorst c v
as_worst c v i h None e worst_is = let f = worst_is v i in absurd (cc)
as_worst c v i h (Some w) e worst_is = inr (w, e, same_profile c v w false h worst_is.1)

by_worse : (c : PureCarrier) (v : PureValue) → IsCarrier c → In c v → (b : Bool) → has_worse c v ≡ b → IsAsBestOrWorst c v
by_worse c v is i true h = inl (same_profile c v (best c) true h (best_has_worse c v is i h (is_flat c) refl))
by_worse c v is i false h = as_worst c v i h (worst c) refl (worst_by_test c is)

as_best_or_worst : (c : PureCarrier) (v : PureValue) → IsCarrier c → In c v → IsAsBestOrWorst c v
as_best_or_worst c v is i = by_worse c v is i (has_worse c v) refl

-- the best value and the worst, where there is one, make the profiles of all constants
pub as_best : (c : PureCarrier) (v : PureValue) → IsCarrier c → worst c ≡ None → In c v → constant_profile c v ≡ constant_profile c (best c)
as_best c v is none i = ⊎_elim (λ e. e) (λ e. absurd (none-some e.0 (sym none ∙ e.1))) (as_best_or_worst c v is i)

pub as_either : (c : PureCarrier) (v w : PureValue) → IsCarrier c → worst c ≡ Some w → In c v
    → (constant_profile c v ≡ constant_profile c (best c)) ⊎ (constant_profile c v ≡ constant_profile c w)
as_either c v w is worst_is i = ⊎_elim
    (λ e. inl e)
    (λ e. inr (e.2 ∙ ap (constant_profile c) (same_Some e.0 w (sym e.1 ∙ worst_is))))
    (as_best_or_worst c v is i)
