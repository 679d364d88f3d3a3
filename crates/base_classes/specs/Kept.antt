-- Labels that keep each value, and labels that send each to none.
use Rattle.std.proofs.Common.{◌≡◌, refl, sym, subst, ◌∙◌, Bool, true, false, Some, None}
use Rattle.std.specs.Ordering.{ordering_reverse}
use Rattle.std.specs.declared.cmp.Ordering.{Ordering}
use Rattle.std.specs.declared.cmp.Ordering.TheVariants.{Less, Equal, Greater}
use Rattle.alg_model.specs.Expressions.{PureCarrier, PureValue}
use Rattle.alg_model.specs.Carriers.{In, Order, IsPreferred, AreEquivalent}
use Rattle.alg_model.specs.PreferenceLaws.{total_preorder}
use Rattle.alg_classes.specs.declared.fact.Fact.TheVariants.{Total, Dead, Strict, Condensed, Narrow}
use Rattle.alg_classes.specs.Facts.{Action, at, between, Refutes}
use Rattle.alg_classes.specs.Profiles.{bit}
use Rattle.alg_classes.specs.ClassLaws.{on_all}
use Rattle.alg_classes.specs.Constants.{denied_profile}
use Rattle.base_classes.specs.Profiles.{keep_profile}
use Rattle.base_classes.specs.Witnesses.{Witness}
use Rattle.base_classes.specs.Reported.{Reports, Reported, always, never}

not_less : (o : Ordering) → o ≡ ordering_reverse o → ¬ (o ≡ Less)
not_less Less e h = cc
not_less Equal e h = cc
not_less Greater e h = cc

-- no value is preferred to itself
pub not_preferred : (c : PureCarrier) (v : PureValue) → In c v → ¬ (Order c v v ≡ Less)
not_preferred c v i = not_less (Order c v v) ((total_preorder c).flip v v i i)

-- each value's image is itself
abbrev pub Keeps : PureCarrier → Action → Type 0
Keeps c f = (v : PureValue) → In c v → f v ≡ Some v

same_value : (v w : PureValue) → Some v ≡ Some w → v ≡ w
same_value v w e = cc

-- the facts of such a label, by a value and two others of which the first is preferred if the carrier isn't flat
pub kept_stated : (c : PureCarrier) (f : Action) (flat : Bool) (w : Witness) (s u v : PureValue) → Keeps c f
    → (flat ≡ true → (x y : PureValue) → In c x → In c y → Order c x y ≡ Equal) → (flat ≡ false → Order c u v ≡ Less)
    → w Dead ≡ at s → w Strict ≡ at s → w Condensed ≡ between u v → w Narrow ≡ between u v
    → In c s → In c u → In c v → Reported c f (keep_profile flat) w
kept_stated c f flat w s u v kept level steep e1 e2 e3 e4 in_s in_u in_v = on_all (λ k. Reports c f k (bit (keep_profile flat) k) (w k))
    (always (λ x i. (x, kept x i)))
    (never (subst (λ e. Refutes c f Dead e) (sym e1) (in_s, (s, kept s in_s))))
    (always (λ x i. subst (λ o. ¬ IsPreferred c o (Some x)) (sym (kept x i)) (not_preferred c x i)))
    (never (subst (λ e. Refutes c f Strict e) (sym e2) (in_s, (s, kept s in_s, not_preferred c s in_s))))
    (always (λ x y i j n. subst (λ o. ¬ IsPreferred c (f y) o) (sym (kept x i)) (subst (λ o. ¬ IsPreferred c o (Some x)) (sym (kept y j)) n)))
    (always (λ x y i j h. subst (λ o. AreEquivalent c o (Some y)) (kept x i) (subst (λ o. AreEquivalent c (f x) o) (kept y j) h))) (
      λ e x y a b i j g h. subst (λ o. Order c a o ≡ Equal) (same_value y b (sym (kept y j) ∙ h)) (subst (λ o. Order c o y ≡ Equal) (same_value x a (sym (kept x i) ∙ g)) (level e x y i j)),
      λ e. subst (λ e. Refutes c f Condensed e) (sym e3) ((in_u, in_v), (u, v, kept u in_u, kept v in_v, steep e)),
    ) (
      λ e x y a b i j g h. level e x y i j,
      λ e. subst (λ e. Refutes c f Narrow e) (sym e4) ((in_u, in_v), (u, v, kept u in_u, kept v in_v, steep e)),
    )

-- the facts of a label that sends each value to none, by one value
pub dead_stated : (c : PureCarrier) (f : Action) (w : Witness) (s : PureValue) → ((v : PureValue) → In c v → f v ≡ None)
    → w Total ≡ at s → In c s → Reported c f denied_profile w
dead_stated c f w s gone e1 in_s = on_all (λ k. Reports c f k (bit denied_profile k) (w k))
    (never (subst (λ e. Refutes c f Total e) (sym e1) (in_s, gone s in_s)))
    (always gone)
    (always (λ x i. subst (λ o. ¬ IsPreferred c o (Some x)) (sym (gone x i)) (λ e. cc)))
    (always (λ x i. subst (λ o. IsPreferred c (Some x) o) (sym (gone x i)) refl))
    (always (λ x y i j n. subst (λ o. ¬ IsPreferred c (f y) o) (sym (gone x i)) (subst (λ o. ¬ IsPreferred c o None) (sym (gone y j)) (λ e. cc))))
    (always (λ x y i j h. absurd (subst (λ o. AreEquivalent c o (f y)) (gone x i) h)))
    (always (λ x y a b i j g h. let n = gone x i in absurd (cc)))
    (always (λ x y a b i j g h. let n = gone x i in absurd (cc)))
