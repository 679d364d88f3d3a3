-- Orders of pairs and of the images of pairs, for the proofs of the rule of lexical pairs.
use Rattle.std.proofs.Common.{◌≡◌, refl, sym, ap, subst, ◌∙◌, Option, Some, None, ◌⊎◌, inl, inr, ⊎_elim}
use Rattle.std.specs.Ordering.{ordering_then, ordering_reverse}
use Rattle.std.specs.declared.cmp.Ordering.{Ordering}
use Rattle.std.specs.declared.cmp.Ordering.TheVariants.{Less, Equal, Greater}
use Rattle.alg_model.specs.Expressions.{PureCarrier, pairs, PureValue, pair}
use Rattle.alg_model.specs.Carriers.{In, Order, IsPreferred, AreEquivalent}
use Rattle.alg_model.specs.Application.{both}
use Rattle.alg_model.specs.Laws.{total_preorder}

-- how a chain comes to Less or to Equal
pub then_less : (o p : Ordering) → ordering_then o p ≡ Less → (o ≡ Less) ⊎ ((o ≡ Equal) × (p ≡ Less))
then_less Less p h = inl refl
then_less Equal p h = inr (refl, h)
then_less Greater p h = absurd (cc)

pub then_equal : (o p : Ordering) → ordering_then o p ≡ Equal → (o ≡ Equal) × (p ≡ Equal)
then_equal Less p h = absurd (cc)
then_equal Equal p h = (refl, h)
then_equal Greater p h = absurd (cc)

pub by_first : (o p : Ordering) → o ≡ Less → ordering_then o p ≡ Less
by_first o p e = rw e refl

pub by_second : (o p q : Ordering) → o ≡ Equal → p ≡ q → ordering_then o p ≡ q
by_second o p q e h = rw e h

pub less_after_less : (o p q : Ordering) → o ≡ Less → p ≡ ordering_reverse o → ¬ (ordering_then p q ≡ Less)
less_after_less o p q e flip h = ⊎_elim (λ a. absurd (let f : p ≡ Greater = flip ∙ ap ordering_reverse e in cc)) (λ a. absurd (let b = a.0 in let f : p ≡ Greater = flip ∙ ap ordering_reverse e in cc)) (then_less p q h)

pub own_reverse : (o : Ordering) → o ≡ ordering_reverse o → o ≡ Equal
own_reverse Less e = absurd (cc)
own_reverse Equal e = refl
own_reverse Greater e = absurd (cc)

-- a value is equivalent to itself
pub same : (c : PureCarrier) (u : PureValue) → In c u → Order c u u ≡ Equal
same c u i = own_reverse (Order c u u) ((total_preorder c).flip u u i i)

-- what is preferred isn't preferred to
pub not_both : (c : PureCarrier) (u v : PureValue) → In c u → In c v → Order c u v ≡ Less → ¬ (Order c v u ≡ Less)
not_both c u v i j e h = let f : Order c v u ≡ Greater = (total_preorder c).flip u v i j ∙ ap ordering_reverse e in absurd (cc)

pub less_or_same : (o p : Ordering) → p ≡ ordering_reverse o → ¬ (p ≡ Less) → (o ≡ Less) ⊎ (o ≡ Equal)
less_or_same Less p e n = inl refl
less_or_same Equal p e n = inr refl
less_or_same Greater p e n = absurd (n e)

-- where the second isn't preferred, the first is preferred or equivalent
pub not_after : (c : PureCarrier) (u v : PureValue) → In c u → In c v → ¬ (Order c v u ≡ Less) → (Order c u v ≡ Less) ⊎ (Order c u v ≡ Equal)
not_after c u v i j n = less_or_same (Order c u v) (Order c v u) ((total_preorder c).flip u v i j) n

pub equal_flips : (c : PureCarrier) (u v : PureValue) → In c u → In c v → Order c u v ≡ Equal → Order c v u ≡ Equal
equal_flips c u v i j e = (total_preorder c).flip u v i j ∙ ap ordering_reverse e

-- pairs of images
pub both_some : (o p : Option PureValue) (u v : PureValue) → o ≡ Some u → p ≡ Some v → both o p ≡ Some (pair u v)
both_some o p u v e h = rw (e, h) refl

pub first_none : (o p : Option PureValue) → o ≡ None → both o p ≡ None
first_none o p e = rw e refl

pub none_second : (o : Option PureValue) → both o None ≡ None
none_second None = refl
none_second (Some u) = refl

pub second_none : (o p : Option PureValue) → p ≡ None → both o p ≡ None
second_none o p e = rw e (none_second o)

abbrev pub IsPairOf : Option PureValue → Option PureValue → PureValue → Type 0
IsPairOf o p w = (u v : PureValue) × (o ≡ Some u) × (p ≡ Some v) × (w ≡ pair u v)

pub both_parts : (o p : Option PureValue) (w : PureValue) → both o p ≡ Some w → IsPairOf o p w
both_parts (Some u) (Some v) w e = (u, v, refl, refl, cc)
both_parts (Some u) None w e = absurd (cc)
both_parts None p w e = absurd (cc)

-- preferred values, and preferred pairs of them
pub preferred_value : (c : PureCarrier) (o : Option PureValue) (u : PureValue) → IsPreferred c o (Some u) → (w : PureValue) × (o ≡ Some w) × (Order c w u ≡ Less)
preferred_value c (Some w) u h = (w, refl, h)
preferred_value c None u h = absurd (cc)

pub none_preferred : (c : PureCarrier) (o p : Option PureValue) → o ≡ None → ¬ IsPreferred c o p
none_preferred c (Some w) p e h = absurd (cc)
none_preferred c None (Some v) e h = absurd (cc)
none_preferred c None None e h = absurd (cc)

pub value_preferred : (c : PureCarrier) (o : Option PureValue) (w u : PureValue) → o ≡ Some w → Order c w u ≡ Less → IsPreferred c o (Some u)
value_preferred c o w u e h = subst (λ o. IsPreferred c o (Some u)) (sym e) h

pub preferred_by_first : (c d : PureCarrier) (o p r : Option PureValue) (t : PureValue) → IsPreferred c o p → IsPreferred (pairs c d) (both o (Some t)) (both p r)
preferred_by_first c d (Some w) (Some z) (Some s) t h = by_first (Order c w z) (Order d t s) h
preferred_by_first c d (Some w) (Some z) None t h = refl
preferred_by_first c d (Some w) None r t h = refl
preferred_by_first c d None (Some z) r t h = absurd (cc)
preferred_by_first c d None None r t h = absurd (cc)

pub preferred_by_second : (c d : PureCarrier) (u w : PureValue) (o p : Option PureValue) → Order c u w ≡ Equal → IsPreferred d o p → IsPreferred (pairs c d) (both (Some u) o) (both (Some w) p)
preferred_by_second c d u w (Some s) (Some t) e h = by_second (Order c u w) (Order d s t) Less e h
preferred_by_second c d u w (Some s) None e h = refl
preferred_by_second c d u w None (Some t) e h = absurd (cc)
preferred_by_second c d u w None None e h = absurd (cc)

-- a value of which none is preferred to a pair's first, or to its second
pub worse_by_first : (c d : PureCarrier) (a b : PureValue) (o p : Option PureValue) → IsPreferred c (Some a) o → IsPreferred (pairs c d) (Some (pair a b)) (both o p)
worse_by_first c d a b (Some w) (Some t) h = by_first (Order c a w) (Order d b t) h
worse_by_first c d a b (Some w) None h = refl
worse_by_first c d a b None p h = refl

pub worse_by_second : (c d : PureCarrier) (a b : PureValue) (o p : Option PureValue) → In c a → ((w : PureValue) → o ≡ Some w → In c w) → ¬ IsPreferred c o (Some a) → IsPreferred d (Some b) p → IsPreferred (pairs c d) (Some (pair a b)) (both o p)
worse_by_second c d a b (Some w) (Some t) i kept n h = ⊎_elim
    (λ e. by_first (Order c a w) (Order d b t) e)
    (λ e. by_second (Order c a w) (Order d b t) Less e h)
    (not_after c a w i (kept w refl) n)
worse_by_second c d a b (Some w) None i kept n h = refl
worse_by_second c d a b None p i kept n h = refl

abbrev pub IsPreferredPair : PureCarrier → PureCarrier → Option PureValue → Option PureValue → PureValue → PureValue → Type 0
IsPreferredPair c d o p a b = (w t : PureValue) × (o ≡ Some w) × (p ≡ Some t) × ((Order c w a ≡ Less) ⊎ ((Order c w a ≡ Equal) × (Order d t b ≡ Less)))

pub preferred_pair : (c d : PureCarrier) (o p : Option PureValue) (a b : PureValue) → IsPreferred (pairs c d) (both o p) (Some (pair a b)) → IsPreferredPair c d o p a b
preferred_pair c d (Some w) (Some t) a b h = (w, t, refl, refl, then_less (Order c w a) (Order d t b) h)
preferred_pair c d (Some w) None a b h = absurd (cc)
preferred_pair c d None p a b h = absurd (cc)

-- both are values, and they are equivalent
pub equivalent_values : (c : PureCarrier) (o p : Option PureValue) → AreEquivalent c o p → (u v : PureValue) × (o ≡ Some u) × (p ≡ Some v) × (Order c u v ≡ Equal)
equivalent_values c (Some u) (Some v) e = (u, v, refl, refl, e)
equivalent_values c (Some u) None e = absurd e
equivalent_values c None p e = absurd e

pub values_equivalent : (c : PureCarrier) (o p : Option PureValue) (u v : PureValue) → o ≡ Some u → p ≡ Some v → Order c u v ≡ Equal → AreEquivalent c o p
values_equivalent c o p u v e h same = subst (λ o. AreEquivalent c o p) (sym e) (subst (λ p. AreEquivalent c (Some u) p) (sym h) same)

pub equivalent_parts : (c d : PureCarrier) (o p q r : Option PureValue) → AreEquivalent (pairs c d) (both o p) (both q r) → AreEquivalent c o q × AreEquivalent d p r
equivalent_parts c d (Some u) (Some v) (Some w) (Some x) e = then_equal (Order c u w) (Order d v x) e
equivalent_parts c d (Some u) (Some v) (Some w) None e = absurd e
equivalent_parts c d (Some u) (Some v) None r e = absurd e
equivalent_parts c d (Some u) None q r e = absurd e
equivalent_parts c d None p q r e = absurd e

pub equivalent_pairs : (c d : PureCarrier) (o p q r : Option PureValue) → AreEquivalent c o q → AreEquivalent d p r → AreEquivalent (pairs c d) (both o p) (both q r)
equivalent_pairs c d (Some u) (Some v) (Some w) (Some x) e h = by_second (Order c u w) (Order d v x) Equal e h
equivalent_pairs c d (Some u) (Some v) (Some w) None e h = absurd h
equivalent_pairs c d (Some u) None (Some w) r e h = absurd h
equivalent_pairs c d (Some u) p None r e h = absurd e
equivalent_pairs c d None p q r e h = absurd e
