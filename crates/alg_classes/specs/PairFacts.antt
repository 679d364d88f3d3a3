-- When a fact of a pair holds, for the proof of the rule of lexical pairs.
use Rattle.std.proofs.Common.{◌≡◌, refl, sym, ap, subst, ◌∙◌, Option, Some, None, ◌⊎◌, ⊎_elim}
use Rattle.std.specs.Ordering.{ordering_then, ordering_reverse}
use Rattle.std.specs.declared.cmp.Ordering.TheVariants.{Less, Equal, Greater}
use Rattle.alg_model.specs.Expressions.{PureCarrier, pairs, PureValue, pair}
use Rattle.alg_model.specs.Carriers.{In, Order, IsPreferred, AreEquivalent}
use Rattle.alg_model.specs.Application.{both}
use Rattle.alg_model.specs.Laws.{total_preorder}
use Rattle.alg_model.specs.PreferenceLaws.{each_pair}
use Rattle.alg_classes.specs.declared.fact.Fact.{Fact}
use Rattle.alg_classes.specs.declared.fact.Fact.TheVariants.{Total, Dead, Monotone, Strict, Isotone, Cancellative, Condensed, Narrow}
use Rattle.alg_classes.specs.Facts.{Action, Holds}
use Rattle.alg_classes.specs.FactLaws.{Keeps}
use Rattle.alg_classes.specs.Pairs.{paired}
use Rattle.alg_classes.specs.PairOrders.{then_less, by_first, by_second, not_after, equal_flips, both_some, first_none, second_none, both_parts, preferred_value, none_preferred, value_preferred, worse_by_first, worse_by_second, preferred_pair, equivalent_values, values_equivalent, equivalent_parts}

pub both_total : (c d : PureCarrier) (f g : Action) → Holds c f Total → Holds d g Total → Holds (pairs c d) (paired f g) Total
both_total c d f g h k = λ v i. each_pair c d (λ v. (w : PureValue) × (paired f g v ≡ Some w))
    (λ a b ia ib. let w = h a ia in let t = k b ib in (pair w.0 t.0, both_some (f a) (g b) w.0 t.0 w.1 t.1)) v i

pub first_dead : (c d : PureCarrier) (f g : Action) → Holds c f Dead → Holds (pairs c d) (paired f g) Dead
first_dead c d f g h = λ v i. each_pair c d (λ v. paired f g v ≡ None) (λ a b ia ib. first_none (f a) (g b) (h a ia)) v i

pub second_dead : (c d : PureCarrier) (f g : Action) → Holds d g Dead → Holds (pairs c d) (paired f g) Dead
second_dead c d f g h = λ v i. each_pair c d (λ v. paired f g v ≡ None) (λ a b ia ib. second_none (f a) (g b) (h b ib)) v i

-- a label that sends each value to none has every fact but total
pub dead_holds : (c : PureCarrier) (f : Action) → Holds c f Dead → (k : Fact) → ¬ (k ≡ Total) → Holds c f k
dead_holds c f h Total n = absurd (n refl)
dead_holds c f h Dead n = h
dead_holds c f h Monotone n = λ v i p. let q = preferred_value c (f v) v p in let e = h v i in let g = q.1 in absurd (cc)
dead_holds c f h Strict n = λ v i. subst (λ o. IsPreferred c (Some v) o) (sym (h v i)) refl
dead_holds c f h Isotone n = λ u v i j m p. none_preferred c (f v) (f u) (h v j) p
dead_holds c f h Cancellative n = λ u v i j e. let q = equivalent_values c (f u) (f v) e in let g = h u i in let k = q.2 in absurd (cc)
dead_holds c f h Condensed n = λ u v w x i j e g. let k = h u i in absurd (cc)
dead_holds c f h Narrow n = λ u v w x i j e g. let k = h u i in absurd (cc)

-- the pair is dead where a part is, and so it has the fact
pub dead_pair : (c d : PureCarrier) (f g : Action) → Holds c f Dead ⊎ Holds d g Dead → (k : Fact) → ¬ (k ≡ Total) → Holds (pairs c d) (paired f g) k
dead_pair c d f g h k n = dead_holds (pairs c d) (paired f g) (⊎_elim (first_dead c d f g) (second_dead c d f g) h) k n

pub strict_is_monotone : (c d : PureCarrier) (f g : Action) → Keeps c f → Holds c f Strict → Holds (pairs c d) (paired f g) Monotone
strict_is_monotone c d f g kept h = λ v i. each_pair c d (λ v. ¬ IsPreferred (pairs c d) (paired f g v) (Some v)) (λ a b ia ib p.
    let w = preferred_pair c d (f a) (g b) a b p in
    let less : Order c a w.0 ≡ Less = subst (λ o. IsPreferred c (Some a) o) w.2 (h a ia) in
    let over : Order c w.0 a ≡ Greater = (total_preorder c).flip a w.0 ia (kept a w.0 ia w.2) ∙ ap ordering_reverse less in
    ⊎_elim (λ e. absurd (cc)) (λ e. let same = e.0 in absurd (cc)) w.4) v i

pub both_monotone : (c d : PureCarrier) (f g : Action) → Holds c f Monotone → Holds d g Monotone → Holds (pairs c d) (paired f g) Monotone
both_monotone c d f g h k = λ v i. each_pair c d (λ v. ¬ IsPreferred (pairs c d) (paired f g v) (Some v)) (λ a b ia ib p.
    let w = preferred_pair c d (f a) (g b) a b p in
    ⊎_elim
    (λ e. h a ia (value_preferred c (f a) w.0 a w.2 e))
    (λ e. k b ib (value_preferred d (g b) w.1 b w.3 e.1)) w.4) v i

pub strict_is_strict : (c d : PureCarrier) (f g : Action) → Holds c f Strict → Holds (pairs c d) (paired f g) Strict
strict_is_strict c d f g h = λ v i. each_pair c d (λ v. IsPreferred (pairs c d) (Some v) (paired f g v))
    (λ a b ia ib. worse_by_first c d a b (f a) (g b) (h a ia)) v i

pub monotone_and_strict : (c d : PureCarrier) (f g : Action) → Keeps c f → Holds c f Monotone → Holds d g Strict → Holds (pairs c d) (paired f g) Strict
monotone_and_strict c d f g kept h k = λ v i. each_pair c d (λ v. IsPreferred (pairs c d) (Some v) (paired f g v))
    (λ a b ia ib. worse_by_second c d a b (f a) (g b) ia (λ w. kept a w ia) (h a ia) (k b ib)) v i

pub both_cancellative : (c d : PureCarrier) (f g : Action) → Holds c f Cancellative → Holds d g Cancellative → Holds (pairs c d) (paired f g) Cancellative
both_cancellative c d f g h k = λ u v i j. each_pair c d (λ u. AreEquivalent (pairs c d) (paired f g u) (paired f g v) → AreEquivalent (pairs c d) (Some u) (Some v)) (λ a b ia ib.
    each_pair c d (λ v. AreEquivalent (pairs c d) (both (f a) (g b)) (paired f g v) → AreEquivalent (pairs c d) (Some (pair a b)) (Some v)) (λ x y ix iy e.
    let parts = equivalent_parts c d (f a) (g b) (f x) (g y) e in
    by_second (Order c a x) (Order d b y) Equal (h a x ia ix parts.0) (k b y ib iy parts.1)) v j) u i

pub both_condensed : (c d : PureCarrier) (f g : Action) → Holds c f Condensed → Holds d g Condensed → Holds (pairs c d) (paired f g) Condensed
both_condensed c d f g h k = λ u v w x i j. each_pair c d (λ u. paired f g u ≡ Some w → paired f g v ≡ Some x → Order (pairs c d) w x ≡ Equal) (λ a b ia ib.
    each_pair c d (λ v. both (f a) (g b) ≡ Some w → paired f g v ≡ Some x → Order (pairs c d) w x ≡ Equal) (λ s t is it e e2.
    let m = both_parts (f a) (g b) w e in
    let n = both_parts (f s) (g t) x e2 in
    subst (λ w. Order (pairs c d) w x ≡ Equal) (sym m.4) (subst (λ x. Order (pairs c d) (pair m.0 m.1) x ≡ Equal) (sym n.4)
    (by_second (Order c m.0 n.0) (Order d m.1 n.1) Equal (h a s m.0 n.0 ia is m.2 n.2) (k b t m.1 n.1 ib it m.3 n.3)))) v j) u i

pub both_narrow : (c d : PureCarrier) (f g : Action) → Holds c f Narrow → Holds d g Narrow → Holds (pairs c d) (paired f g) Narrow
both_narrow c d f g h k = λ u v w x i j. each_pair c d (λ u. paired f g u ≡ Some w → paired f g v ≡ Some x → Order (pairs c d) u v ≡ Equal) (λ a b ia ib.
    each_pair c d (λ v. both (f a) (g b) ≡ Some w → paired f g v ≡ Some x → Order (pairs c d) (pair a b) v ≡ Equal) (λ s t is it e e2.
    let m = both_parts (f a) (g b) w e in
    let n = both_parts (f s) (g t) x e2 in
    by_second (Order c a s) (Order d b t) Equal (h a s m.0 n.0 ia is m.2 n.2) (k b t m.1 n.1 ib it m.3 n.3)) v j) u i

-- what keeps the second part from turning the order of the first: no value is preferred among those that have an
-- image, or each second part has one, and where first parts become equivalent, they were or second ones become so too
abbrev pub IsTied : PureCarrier → PureCarrier → Action → Action → Type 0
IsTied c d f g = Holds c f Narrow ⊎ (Holds d g Total × (Holds c f Cancellative ⊎ Holds d g Condensed))

-- where the first part is isotone, an image has one before it
pub not_past : (c : PureCarrier) (o p : Option PureValue) (w : PureValue) → o ≡ Some w → ¬ IsPreferred c o p → (z : PureValue) × (p ≡ Some z) × ¬ (Order c w z ≡ Less)
not_past c (Some x) (Some z) w e n = (z, refl, λ h. n (let f : w ≡ x = cc in subst (λ w. Order c w z ≡ Less) f h))
not_past c (Some x) None w e n = absurd (n refl)
not_past c None p w e n = absurd (cc)

-- the images of two pairs, of which that of (x,y) has come before that of (a,b), where x comes after a
pub tied : (c d : PureCarrier) (f g : Action) (a b x y w t z : PureValue) → IsTied c d f g → In c a → In c x → In d b → In d y
    → f x ≡ Some w → g y ≡ Some t → f a ≡ Some z → ¬ (Order c w z ≡ Less) → Order c z w ≡ ordering_reverse (Order c w z) → Order c a x ≡ Less
    → ¬ IsPreferred (pairs c d) (both (Some w) (Some t)) (both (Some z) (g b))
tied c d f g a b x y w t z tie ia ix ib iy ew et ez n flip less p = ⊎_elim
    (λ Narrow. let e = Narrow a x z w ia ix ez ew in absurd (cc))
    (λ h.
    let s = h.0 b ib in
    let q : ordering_then (Order c w z) (Order d t s.0) ≡ Less = subst (λ o. IsPreferred (pairs c d) (Some (pair w t)) (both (Some z) o)) s.1 p in
    ⊎_elim n (λ e.
    let back : Order c z w ≡ Equal = flip ∙ ap ordering_reverse e.0 in
    ⊎_elim
    (λ Cancellative. let k = Cancellative a x ia ix (values_equivalent c (f a) (f x) z w ez ew back) in absurd (cc))
    (λ Condensed. let k = Condensed y b t s.0 iy ib et s.1 in let m = e.1 in absurd (cc)) h.1)
    (then_less (Order c w z) (Order d t s.0) q)) tie

-- the same where x and a are equivalent
pub level : (d : PureCarrier) (c : PureCarrier) (g : Action) (b y w t z : PureValue) → g y ≡ Some t → ¬ (Order c w z ≡ Less) → ¬ IsPreferred d (g y) (g b)
    → ¬ IsPreferred (pairs c d) (both (Some w) (Some t)) (both (Some z) (g b))
level d c g b y w t z et n m p =
    let s = not_past d (g y) (g b) t et m in
    let q : ordering_then (Order c w z) (Order d t s.0) ≡ Less = subst (λ o. IsPreferred (pairs c d) (Some (pair w t)) (both (Some z) o)) s.1 p in
    ⊎_elim n (λ e. s.2 e.1) (then_less (Order c w z) (Order d t s.0) q)

-- a preferred pair is there
pub preferred_both : (c d : PureCarrier) (o p r : Option PureValue) → IsPreferred (pairs c d) (both o p) r → (w t : PureValue) × (o ≡ Some w) × (p ≡ Some t)
preferred_both c d (Some w) (Some t) r h = (w, t, refl, refl)
preferred_both c d (Some w) None (Some r) h = absurd (cc)
preferred_both c d (Some w) None None h = absurd (cc)
preferred_both c d None p (Some r) h = absurd (cc)
preferred_both c d None p None h = absurd (cc)

pub isotone_of_pair : (c d : PureCarrier) (f g : Action) → Keeps c f → Holds c f Isotone → Holds d g Isotone → IsTied c d f g → (a b x y : PureValue) → In c a → In d b → In c x → In d y
    → ¬ IsPreferred (pairs c d) (Some (pair x y)) (Some (pair a b)) → ¬ IsPreferred (pairs c d) (both (f x) (g y)) (both (f a) (g b))
isotone_of_pair c d f g kept h k tie a b x y ia ib ix iy n p =
    let w = preferred_both c d (f x) (g y) (both (f a) (g b)) p in
    let not_first : ¬ (Order c x a ≡ Less) = λ e. n (by_first (Order c x a) (Order d y b) e) in
    let z = not_past c (f x) (f a) w.0 w.2 (h a x ia ix not_first) in
    let q : IsPreferred (pairs c d) (both (Some w.0) (Some w.1)) (both (Some z.0) (g b)) =
    subst (λ o. IsPreferred (pairs c d) (both o (Some w.1)) (both (Some z.0) (g b))) w.2
    (subst (λ o. IsPreferred (pairs c d) (both (f x) o) (both (Some z.0) (g b))) w.3
    (subst (λ o. IsPreferred (pairs c d) (both (f x) (g y)) (both o (g b))) z.1 p)) in
    ⊎_elim
    (λ less. tied c d f g a b x y w.0 w.1 z.0 tie ia ix ib iy w.2 w.3 z.1 z.2
    ((total_preorder c).flip w.0 z.0 (kept x w.0 ix w.2) (kept a z.0 ia z.1)) less q)
    (λ same. level d c g b y w.0 w.1 z.0 w.3 z.2
    (k b y ib iy (λ e. n (by_second (Order c x a) (Order d y b) Less (equal_flips c a x ia ix same) e))) q)
    (not_after c a x ia ix not_first)

pub both_isotone : (c d : PureCarrier) (f g : Action) → Keeps c f → Holds c f Isotone → Holds d g Isotone → IsTied c d f g → Holds (pairs c d) (paired f g) Isotone
both_isotone c d f g kept h k tie = λ u v i j. each_pair c d (λ u. ¬ IsPreferred (pairs c d) (Some v) (Some u) → ¬ IsPreferred (pairs c d) (paired f g v) (paired f g u)) (λ a b ia ib.
    each_pair c d (λ v. ¬ IsPreferred (pairs c d) (Some v) (Some (pair a b)) → ¬ IsPreferred (pairs c d) (paired f g v) (both (f a) (g b))) (λ x y ix iy.
    isotone_of_pair c d f g kept h k tie a b x y ia ib ix iy) v j) u i
