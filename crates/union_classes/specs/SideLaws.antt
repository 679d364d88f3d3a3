-- What holds and fails of one action beside another, by what holds and fails of each.
use Rattle.std.proofs.Common.{◌≡◌, refl, sym, ap, subst, ◌∙◌, Option, Some, None, ◌⊎◌, ⊎_elim}
use Rattle.std.specs.Prelude.{option_map}
use Rattle.std.specs.declared.cmp.Ordering.TheVariants.{Equal}
use Rattle.alg_model.specs.Expressions.{PureCarrier, sides, PureValue, first, second}
use Rattle.alg_model.specs.Carriers.{In, Order, OrderOrNone, IsPreferred, AreEquivalent}
use Rattle.alg_model.specs.PreferenceLaws.{each_side}
use Rattle.alg_classes.specs.declared.fact.Fact.{Fact}
use Rattle.alg_classes.specs.declared.fact.Fact.TheVariants.{Total, Dead, Monotone, Strict, Isotone, Cancellative, Condensed, Narrow}
use Rattle.alg_classes.specs.Facts.{Action, Holds, PureExample, at, between, Refutes}
use Rattle.union_classes.specs.Sums.{beside, on_first, on_second}

-- comparisons within a side are those of its carrier
firsts_compare : (c d : PureCarrier) (o p : Option PureValue) → OrderOrNone (sides c d) (option_map first o) (option_map first p) ≡ OrderOrNone c o p
firsts_compare c d None None = refl
firsts_compare c d None (Some v) = refl
firsts_compare c d (Some u) None = refl
firsts_compare c d (Some u) (Some v) = refl

seconds_compare : (c d : PureCarrier) (o p : Option PureValue) → OrderOrNone (sides c d) (option_map second o) (option_map second p) ≡ OrderOrNone d o p
seconds_compare c d None None = refl
seconds_compare c d None (Some v) = refl
seconds_compare c d (Some u) None = refl
seconds_compare c d (Some u) (Some v) = refl

firsts_equivalent : (c d : PureCarrier) (o p : Option PureValue)
    → (AreEquivalent c o p → AreEquivalent (sides c d) (option_map first o) (option_map first p))
    × (AreEquivalent (sides c d) (option_map first o) (option_map first p) → AreEquivalent c o p)
firsts_equivalent c d None p = (λ e. e, λ e. e)
firsts_equivalent c d (Some u) None = (λ e. e, λ e. e)
firsts_equivalent c d (Some u) (Some v) = (λ e. e, λ e. e)

seconds_equivalent : (c d : PureCarrier) (o p : Option PureValue)
    → (AreEquivalent d o p → AreEquivalent (sides c d) (option_map second o) (option_map second p))
    × (AreEquivalent (sides c d) (option_map second o) (option_map second p) → AreEquivalent d o p)
seconds_equivalent c d None p = (λ e. e, λ e. e)
seconds_equivalent c d (Some u) None = (λ e. e, λ e. e)
seconds_equivalent c d (Some u) (Some v) = (λ e. e, λ e. e)

-- comparisons across the sides
across_not_equivalent : (c d : PureCarrier) (o p : Option PureValue) → ¬ AreEquivalent (sides c d) (option_map first o) (option_map second p)
across_not_equivalent c d None p e = e
across_not_equivalent c d (Some u) None e = e
across_not_equivalent c d (Some u) (Some v) e = cc

back_not_equivalent : (c d : PureCarrier) (o p : Option PureValue) → ¬ AreEquivalent (sides c d) (option_map second o) (option_map first p)
back_not_equivalent c d None p e = e
back_not_equivalent c d (Some u) None e = e
back_not_equivalent c d (Some u) (Some v) e = cc

second_not_preferred : (c d : PureCarrier) (o : Option PureValue) (w : PureValue) → ¬ IsPreferred (sides c d) (option_map second o) (Some (first w))
second_not_preferred c d None w e = cc
second_not_preferred c d (Some v) w e = cc

none_not_preferred : (c : PureCarrier) (o : Option PureValue) → ¬ IsPreferred c None o
none_not_preferred c None e = cc
none_not_preferred c (Some v) e = cc

-- an image on a side is one of that side's action
image_of : (side : PureValue → PureValue) (o : Option PureValue) (w : PureValue) → option_map side o ≡ Some w → (x : PureValue) × (o ≡ Some x) × (w ≡ side x)
image_of side None w e = absurd (cc)
image_of side (Some x) w e = (x, refl, cc)

-- an example of a part, as values of its side, refutes the fact of the whole
pub refuted_on_first : (c d : PureCarrier) (f g : Action) (k : Fact) (e : PureExample) → Refutes c f k e → Refutes (sides c d) (beside f g) k (on_first e)
refuted_on_first c d f g Total (at u) r = (r.0, ap (option_map first) r.1)
refuted_on_first c d f g Dead (at u) r = (r.0, (first r.1.0, ap (option_map first) r.1.1))
refuted_on_first c d f g Monotone (at u) r = (r.0, firsts_compare c d (f u) (Some u) ∙ r.1)
refuted_on_first c d f g Strict (at u) r = (r.0, (first r.1.0, ap (option_map first) r.1.1, r.1.2))
refuted_on_first c d f g Isotone (between u v) r = (r.0, (r.1.0, firsts_compare c d (f v) (f u) ∙ r.1.1))
refuted_on_first c d f g Cancellative (between u v) r = (r.0, ((firsts_equivalent c d (f u) (f v)).0 r.1.0, r.1.1))
refuted_on_first c d f g Condensed (between u v) r = (r.0, (first r.1.0, first r.1.1, ap (option_map first) r.1.2, ap (option_map first) r.1.3, r.1.4))
refuted_on_first c d f g Narrow (between u v) r = (r.0, (first r.1.0, first r.1.1, ap (option_map first) r.1.2, ap (option_map first) r.1.3, r.1.4))
refuted_on_first c d f g _ _ r = absurd r.1

pub refuted_on_second : (c d : PureCarrier) (f g : Action) (k : Fact) (e : PureExample) → Refutes d g k e → Refutes (sides c d) (beside f g) k (on_second e)
refuted_on_second c d f g Total (at u) r = (r.0, ap (option_map second) r.1)
refuted_on_second c d f g Dead (at u) r = (r.0, (second r.1.0, ap (option_map second) r.1.1))
refuted_on_second c d f g Monotone (at u) r = (r.0, seconds_compare c d (g u) (Some u) ∙ r.1)
refuted_on_second c d f g Strict (at u) r = (r.0, (second r.1.0, ap (option_map second) r.1.1, r.1.2))
refuted_on_second c d f g Isotone (between u v) r = (r.0, (r.1.0, seconds_compare c d (g v) (g u) ∙ r.1.1))
refuted_on_second c d f g Cancellative (between u v) r = (r.0, ((seconds_equivalent c d (g u) (g v)).0 r.1.0, r.1.1))
refuted_on_second c d f g Condensed (between u v) r = (r.0, (second r.1.0, second r.1.1, ap (option_map second) r.1.2, ap (option_map second) r.1.3, r.1.4))
refuted_on_second c d f g Narrow (between u v) r = (r.0, (second r.1.0, second r.1.1, ap (option_map second) r.1.2, ap (option_map second) r.1.3, r.1.4))
refuted_on_second c d f g _ _ r = absurd r.1

-- examples across the sides
pub refuted_isotone : (c d : PureCarrier) (f g : Action) (u v : PureValue) → Refutes c f Total (at u) → Refutes d g Dead (at v)
    → Refutes (sides c d) (beside f g) Isotone (between (first u) (second v))
refuted_isotone c d f g u v r s = let a = r.1 in let b = s.1.1 in ((r.0, s.0), ((λ e. cc), rw (b, a) refl))

pub refuted_condensed : (c d : PureCarrier) (f g : Action) (u v : PureValue) → Refutes c f Dead (at u) → Refutes d g Dead (at v)
    → Refutes (sides c d) (beside f g) Condensed (between (first u) (second v))
refuted_condensed c d f g u v r s = ((r.0, s.0), (first r.1.0, second s.1.0, ap (option_map first) r.1.1, ap (option_map second) s.1.1, refl))

pub refuted_narrow : (c d : PureCarrier) (f g : Action) (u v : PureValue) → Refutes c f Dead (at u) → Refutes d g Dead (at v)
    → Refutes (sides c d) (beside f g) Narrow (between (first u) (second v))
refuted_narrow c d f g u v r s = ((r.0, s.0), (first r.1.0, second s.1.0, ap (option_map first) r.1.1, ap (option_map second) s.1.1, refl))

-- what holds of both
pub both_total : (c d : PureCarrier) (f g : Action) → Holds c f Total → Holds d g Total → Holds (sides c d) (beside f g) Total
both_total c d f g h k = each_side c d (λ v. (w : PureValue) × (beside f g v ≡ Some w))
    (λ u i. let s = h u i in (first s.0, ap (option_map first) s.1))
    (λ v i. let s = k v i in (second s.0, ap (option_map second) s.1))

pub both_dead : (c d : PureCarrier) (f g : Action) → Holds c f Dead → Holds d g Dead → Holds (sides c d) (beside f g) Dead
both_dead c d f g h k = each_side c d (λ v. beside f g v ≡ None) (λ u i. ap (option_map first) (h u i)) (λ v i. ap (option_map second) (k v i))

pub both_monotone : (c d : PureCarrier) (f g : Action) → Holds c f Monotone → Holds d g Monotone → Holds (sides c d) (beside f g) Monotone
both_monotone c d f g h k = each_side c d (λ v. ¬ IsPreferred (sides c d) (beside f g v) (Some v))
    (λ u i p. h u i (sym (firsts_compare c d (f u) (Some u)) ∙ p))
    (λ v i p. k v i (sym (seconds_compare c d (g v) (Some v)) ∙ p))

pub both_strict : (c d : PureCarrier) (f g : Action) → Holds c f Strict → Holds d g Strict → Holds (sides c d) (beside f g) Strict
both_strict c d f g h k = each_side c d (λ v. IsPreferred (sides c d) (Some v) (beside f g v))
    (λ u i. firsts_compare c d (Some u) (f u) ∙ h u i)
    (λ v i. seconds_compare c d (Some v) (g v) ∙ k v i)

pub both_cancellative : (c d : PureCarrier) (f g : Action) → Holds c f Cancellative → Holds d g Cancellative → Holds (sides c d) (beside f g) Cancellative
both_cancellative c d f g h k = λ u v i j. each_side c d
    (λ u. AreEquivalent (sides c d) (beside f g u) (beside f g v) → AreEquivalent (sides c d) (Some u) (Some v))
    (λ s i. each_side c d
    (λ v. AreEquivalent (sides c d) (option_map first (f s)) (beside f g v) → AreEquivalent (sides c d) (Some (first s)) (Some v))
    (λ t j e. h s t i j ((firsts_equivalent c d (f s) (f t)).1 e))
    (λ t j e. absurd (across_not_equivalent c d (f s) (g t) e)) v j)
    (λ s i. each_side c d
    (λ v. AreEquivalent (sides c d) (option_map second (g s)) (beside f g v) → AreEquivalent (sides c d) (Some (second s)) (Some v))
    (λ t j e. absurd (back_not_equivalent c d (g s) (f t) e))
    (λ t j e. k s t i j ((seconds_equivalent c d (g s) (g t)).1 e)) v j) u i

-- an image of the second side isn't preferred to that of the first
order_across : (c d : PureCarrier) (f g : Action) → Holds c f Total ⊎ Holds d g Dead → (u v : PureValue) → In c u → In d v
    → ¬ IsPreferred (sides c d) (option_map second (g v)) (option_map first (f u))
order_across c d f g either u v i j p = ⊎_elim
    (λ h. let s = h u i in second_not_preferred c d (g v) s.0 (subst (λ o. IsPreferred (sides c d) (option_map second (g v)) (option_map first o)) s.1 p))
    (λ h. none_not_preferred (sides c d) (option_map first (f u)) (subst (λ o. IsPreferred (sides c d) (option_map second o) (option_map first (f u))) (h v j) p))
    either

pub both_isotone : (c d : PureCarrier) (f g : Action) → Holds c f Isotone → Holds d g Isotone → Holds c f Total ⊎ Holds d g Dead
    → Holds (sides c d) (beside f g) Isotone
both_isotone c d f g h k either = λ u v i j. each_side c d
    (λ u. ¬ IsPreferred (sides c d) (Some v) (Some u) → ¬ IsPreferred (sides c d) (beside f g v) (beside f g u))
    (λ s i. each_side c d
    (λ v. ¬ IsPreferred (sides c d) (Some v) (Some (first s)) → ¬ IsPreferred (sides c d) (beside f g v) (option_map first (f s)))
    (λ t j n p. h s t i j n (sym (firsts_compare c d (f t) (f s)) ∙ p))
    (λ t j n p. order_across c d f g either s t i j p) v j)
    (λ s i. each_side c d
    (λ v. ¬ IsPreferred (sides c d) (Some v) (Some (second s)) → ¬ IsPreferred (sides c d) (beside f g v) (option_map second (g s)))
    (λ t j n p. n refl)
    (λ t j n p. k s t i j n (sym (seconds_compare c d (g t) (g s)) ∙ p)) v j) u i

-- where one side is dead, there are no images of both
not_across : (c d : PureCarrier) (f g : Action) → Holds c f Dead ⊎ Holds d g Dead → (u v w x : PureValue) → In c u → In d v
    → option_map first (f u) ≡ Some w → option_map second (g v) ≡ Some x → ⊥
not_across c d f g either u v w x i j p q = ⊎_elim
    (λ h. let e = h u i in let a = image_of first (f u) w p in let s = a.1 in cc)
    (λ h. let e = h v j in let a = image_of second (g v) x q in let s = a.1 in cc)
    either

pub both_condensed : (c d : PureCarrier) (f g : Action) → Holds c f Condensed → Holds d g Condensed → Holds c f Dead ⊎ Holds d g Dead
    → Holds (sides c d) (beside f g) Condensed
both_condensed c d f g h k either = λ u v w x i j. each_side c d
    (λ u. beside f g u ≡ Some w → beside f g v ≡ Some x → Order (sides c d) w x ≡ Equal)
    (λ s i. each_side c d (λ v. option_map first (f s) ≡ Some w → beside f g v ≡ Some x → Order (sides c d) w x ≡ Equal)
    (λ t j p q.
    let a = image_of first (f s) w p in
    let b = image_of first (f t) x q in
    rw (a.2, b.2) (h s t a.0 b.0 i j a.1 b.1))
    (λ t j p q. absurd (not_across c d f g either s t w x i j p q)) v j)
    (λ s i. each_side c d (λ v. option_map second (g s) ≡ Some w → beside f g v ≡ Some x → Order (sides c d) w x ≡ Equal)
    (λ t j p q. absurd (not_across c d f g either t s x w j i q p))
    (λ t j p q.
    let a = image_of second (g s) w p in
    let b = image_of second (g t) x q in
    rw (a.2, b.2) (k s t a.0 b.0 i j a.1 b.1)) v j) u i

pub both_narrow : (c d : PureCarrier) (f g : Action) → Holds c f Narrow → Holds d g Narrow → Holds c f Dead ⊎ Holds d g Dead
    → Holds (sides c d) (beside f g) Narrow
both_narrow c d f g h k either = λ u v w x i j. each_side c d
    (λ u. beside f g u ≡ Some w → beside f g v ≡ Some x → Order (sides c d) u v ≡ Equal)
    (λ s i. each_side c d (λ v. option_map first (f s) ≡ Some w → beside f g v ≡ Some x → Order (sides c d) (first s) v ≡ Equal)
    (λ t j p q.
    let a = image_of first (f s) w p in
    let b = image_of first (f t) x q in
    h s t a.0 b.0 i j a.1 b.1)
    (λ t j p q. absurd (not_across c d f g either s t w x i j p q)) v j)
    (λ s i. each_side c d (λ v. option_map second (g s) ≡ Some w → beside f g v ≡ Some x → Order (sides c d) (second s) v ≡ Equal)
    (λ t j p q. absurd (not_across c d f g either t s x w j i q p))
    (λ t j p q.
    let a = image_of second (g s) w p in
    let b = image_of second (g t) x q in
    k s t a.0 b.0 i j a.1 b.1) v j) u i

-- what is sent to none keeps its order
pub isotone_of_dead : (c : PureCarrier) (f : Action) → Holds c f Dead → Holds c f Isotone
isotone_of_dead c f h = λ u v i j n p. none_not_preferred c (f u) (subst (λ o. IsPreferred c o (f u)) (h v j) p)
