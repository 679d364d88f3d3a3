-- Laws of facts, for the proofs of the crates above: an example refutes its fact, and a fact that no example
-- refutes holds.
use Rattle.std.proofs.Common.{◌≡◌, true, false, refl, sym, ap, subst, ◌∙◌, Option, Some, None, ◌⊎◌, inl, inr, ⊎_elim}
use Rattle.std.specs.Ordering.{ordering_reverse}
use Rattle.std.specs.declared.cmp.Ordering.{Ordering}
use Rattle.std.specs.declared.cmp.Ordering.TheVariants.{Less, Equal, Greater}
use Rattle.alg_model.specs.Application.{App}
use Rattle.alg_model.specs.Expressions.{Expression, PureCarrier, PureLabel, PureValue}
use Rattle.alg_model.specs.Properties.{PureProperty, monotone, strict, isotone, cancellative, total, Has}
use Rattle.alg_model.specs.Carriers.{carrier_of, In, Order, IsPreferred, AreEquivalent}
use Rattle.alg_model.specs.PreferenceLaws.{total_preorder}
use Rattle.alg_classes.specs.declared.fact.Fact.{Fact}
use Rattle.alg_classes.specs.declared.fact.Fact.TheVariants.{Total, Dead, Monotone, Strict, Isotone, Cancellative, Condensed, Narrow}
use Rattle.alg_classes.specs.declared.profile.Profile.{Profile}
use Rattle.alg_classes.specs.Profiles.{bit, ProfileOf}
use Rattle.alg_classes.specs.Facts.{Action, fact_of, Holds, PureExample, at, between, Refutes}

-- images of the carrier's values are values of it
abbrev pub Keeps : PureCarrier → Action → Type 0
Keeps c f = (v w : PureValue) → In c v → f v ≡ Some w → In c w

-- what an option may be, and an ordering
pub none_or_some : {X : Type 0} (o : Option X) → (o ≡ None) ⊎ ((w : X) × (o ≡ Some w))
none_or_some None = inl refl
none_or_some (Some w) = inr (w, refl)

pub less_or_not : (o : Ordering) → (o ≡ Less) ⊎ (¬ (o ≡ Less))
less_or_not Less = inl refl
less_or_not Equal = inr (λ e. cc)
less_or_not Greater = inr (λ e. cc)

pub equal_unless : (o : Ordering) → ¬ (o ≡ Less) → ¬ (ordering_reverse o ≡ Less) → o ≡ Equal
equal_unless Less a b = absurd (a refl)
equal_unless Equal a b = refl
equal_unless Greater a b = absurd (b refl)

-- values of which neither is preferred are equivalent
pub equivalent_unless : (c : PureCarrier) (u v : PureValue) → In c u → In c v → ¬ (Order c u v ≡ Less) → ¬ (Order c v u ≡ Less) → Order c u v ≡ Equal
equivalent_unless c u v i j a b = equal_unless (Order c u v) a (λ e. b ((total_preorder c).flip u v i j ∙ e))

pub equivalent_flips : (c : PureCarrier) (o p : Option PureValue) → ((w : PureValue) → o ≡ Some w → In c w) → ((w : PureValue) → p ≡ Some w → In c w)
    → AreEquivalent c o p → AreEquivalent c p o
equivalent_flips c None p i j e = absurd e
equivalent_flips c (Some w) None i j e = absurd e
equivalent_flips c (Some w) (Some x) i j e = (total_preorder c).flip w x (i w refl) (j x refl) ∙ ap ordering_reverse e

-- an example refutes its fact
pub example_refutes : (c : PureCarrier) (f : Action) (k : Fact) (e : PureExample) → Refutes c f k e → ¬ Holds c f k
example_refutes c f Total (at v) r h = let s = h v r.0 in let n = r.1 in let e = s.1 in cc
example_refutes c f Dead (at v) r h = let e = r.1.1 in let n = h v r.0 in cc
example_refutes c f Monotone (at v) r h = h v r.0 r.1
example_refutes c f Strict (at v) r h = r.1.2 (subst (λ o. IsPreferred c (Some v) o) r.1.1 (h v r.0))
example_refutes c f Isotone (between u v) r h = h u v r.0.0 r.0.1 r.1.0 r.1.1
example_refutes c f Cancellative (between u v) r h = let e = h u v r.0.0 r.0.1 r.1.0 in let l = r.1.1 in cc
example_refutes c f Condensed (between u v) r h = let e = h u v r.1.0 r.1.1 r.0.0 r.0.1 r.1.2 r.1.3 in let l = r.1.4 in cc
example_refutes c f Narrow (between u v) r h = let e = h u v r.1.0 r.1.1 r.0.0 r.0.1 r.1.2 r.1.3 in let l = r.1.4 in cc
example_refutes c f _ _ r h = absurd r.1

-- a fact that no example refutes holds
pub holds_unless : (c : PureCarrier) (f : Action) → Keeps c f → (k : Fact) → ((e : PureExample) → ¬ Refutes c f k e) → Holds c f k
holds_unless c f kept Total none = λ v i. ⊎_elim (λ e. absurd (none (at v) (i, e))) (λ s. s) (none_or_some (f v))
holds_unless c f kept Dead none = λ v i. ⊎_elim (λ e. e) (λ s. absurd (none (at v) (i, s))) (none_or_some (f v))
holds_unless c f kept Monotone none = λ v i p. none (at v) (i, p)
holds_unless c f kept Strict none = λ v i. ⊎_elim
    (λ e. subst (λ o. IsPreferred c (Some v) o) (sym e) refl)
    (λ s. subst (λ o. IsPreferred c (Some v) o) (sym s.1) (⊎_elim (λ p. p) (λ n. absurd (none (at v) (i, (s.0, s.1, n)))) (less_or_not (Order c v s.0))))
    (none_or_some (f v))
holds_unless c f kept Isotone none = λ u v i j n p. none (between u v) ((i, j), (n, p))
holds_unless c f kept Cancellative none = λ u v i j e. equivalent_unless c u v i j
    (λ p. none (between u v) ((i, j), (e, p)))
    (λ p. none (between v u) ((j, i), (equivalent_flips c (f u) (f v) (λ w. kept u w i) (λ w. kept v w j) e, p)))
holds_unless c f kept Condensed none = λ u v w x i j e g. equivalent_unless c w x (kept u w i e) (kept v x j g)
    (λ p. none (between u v) ((i, j), (w, x, e, g, p)))
    (λ p. none (between v u) ((j, i), (x, w, g, e, p)))
holds_unless c f kept Narrow none = λ u v w x i j e g. equivalent_unless c u v i j
    (λ p. none (between u v) ((i, j), (w, x, e, g, p)))
    (λ p. none (between v u) ((j, i), (x, w, g, e, p)))

-- a property of a label is its fact
property_is_fact : (p : PureProperty) (a : Expression) (l : PureLabel)
    → (Has p a l → Holds (carrier_of a) (App a l) (fact_of p)) × (Holds (carrier_of a) (App a l) (fact_of p) → Has p a l)
property_is_fact monotone a l = (λ h. h, λ h. h)
property_is_fact strict a l = (λ h. h, λ h. h)
property_is_fact isotone a l = (λ h. h, λ h. h)
property_is_fact cancellative a l = (λ h. h, λ h. h)
property_is_fact total a l = (λ h. h, λ h. h)

-- so the label has it exactly where its profile has that
pub has_by_profile : (p : PureProperty) (a : Expression) (l : PureLabel) (q : Profile) → ProfileOf a l q → bit q (fact_of p) ≡ true → Has p a l
has_by_profile p a l q is e = (property_is_fact p a l).1 ((is (fact_of p)).0 e)

pub misses_by_profile : (p : PureProperty) (a : Expression) (l : PureLabel) (q : Profile) → ProfileOf a l q → bit q (fact_of p) ≡ false → ¬ Has p a l
misses_by_profile p a l q is e h = let there = (is (fact_of p)).1 ((property_is_fact p a l).0 h) in absurd (cc)
