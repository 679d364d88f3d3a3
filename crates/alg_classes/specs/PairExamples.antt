-- What an example of each part of a pair shows of the pair, for the proof of the rule of lexical pairs.
use Rattle.std.proofs.Common.{◌≡◌, refl, sym, subst, Option, Some, None, ⊎_elim}
use Rattle.std.specs.declared.cmp.Ordering.TheVariants.{Less}
use Rattle.alg_model.specs.Expressions.{PureCarrier, pairs, PureValue, pair}
use Rattle.alg_model.specs.Carriers.{In, Order, IsPreferred, AreEquivalent}
use Rattle.alg_model.specs.Application.{both}
use Rattle.alg_model.specs.Laws.{total_preorder}
use Rattle.alg_classes.specs.declared.fact.Fact.{Fact}
use Rattle.alg_classes.specs.declared.fact.Fact.TheVariants.{Total, Dead, Monotone, Strict, Isotone, Cancellative, Condensed, Narrow}
use Rattle.alg_classes.specs.Facts.{Action, PureExample, at, between, Refutes}
use Rattle.alg_classes.specs.FactLaws.{Keeps}
use Rattle.alg_classes.specs.RuleLaws.{OnExample, IsValue}
use Rattle.alg_classes.specs.Pairs.{paired, beside, spanned}
use Rattle.alg_classes.specs.PairOrders.{then_less, by_first, by_second, less_after_less, same, not_after, equal_flips, both_some, first_none, second_none, preferred_value, preferred_by_first, preferred_by_second, equivalent_values, values_equivalent, equivalent_pairs}

abbrev pub Joins : PureCarrier → PureCarrier → Action → Action → (PureExample → Type 0) → (PureExample → Type 0) → Fact → Type 0
Joins c d f g P Q k = (e i : PureExample) → P e → Q i → OnExample (Refutes (pairs c d) (paired f g) k) (beside (Some e) (Some i))

pub joined : (c d : PureCarrier) (f g : Action) (P Q : PureExample → Type 0) (k : Fact) → Joins c d f g P Q k → (x y : Option PureExample) → OnExample P x → OnExample Q y
    → OnExample (Refutes (pairs c d) (paired f g) k) (beside x y)
joined c d f g P Q k rule (Some e) (Some i) r s = rule e i r s
joined c d f g P Q k rule (Some (at u)) None r s = tt
joined c d f g P Q k rule (Some (between u v)) None r s = tt
joined c d f g P Q k rule None y r s = tt

pub dead_with_dead : (c d : PureCarrier) (f g : Action) → Joins c d f g (Refutes c f Dead) (Refutes d g Dead) Dead
dead_with_dead c d f g (at u) (at v) r s = ((r.0, s.0), (pair r.1.0 s.1.0, both_some (f u) (g v) r.1.0 s.1.0 r.1.1 s.1.1))
dead_with_dead c d f g (at u) (between v w) r s = absurd s.1
dead_with_dead c d f g (between u v) i r s = absurd r.1

pub total_with_any : (c d : PureCarrier) (f g : Action) → Joins c d f g (Refutes c f Total) (IsValue d) Total
total_with_any c d f g (at u) (at v) r s = ((r.0, s), first_none (f u) (g v) r.1)
total_with_any c d f g (at u) (between v w) r s = absurd s
total_with_any c d f g (between u v) i r s = absurd r.1

pub any_with_total : (c d : PureCarrier) (f g : Action) → Joins c d f g (IsValue c) (Refutes d g Total) Total
any_with_total c d f g (at u) (at v) r s = ((r, s.0), second_none (f u) (g v) s.1)
any_with_total c d f g (at u) (between v w) r s = absurd s.1
any_with_total c d f g (between u v) i r s = absurd r

pub monotone_with_dead : (c d : PureCarrier) (f g : Action) → Joins c d f g (Refutes c f Monotone) (Refutes d g Dead) Monotone
monotone_with_dead c d f g (at u) (at v) r s = (
  (r.0, s.0),
  subst (λ o. IsPreferred (pairs c d) (both (f u) o) (Some (pair u v))) (sym s.1.1)
      (preferred_by_first c d (f u) (Some u) (Some v) s.1.0 r.1),
)
monotone_with_dead c d f g (at u) (between v w) r s = absurd s.1
monotone_with_dead c d f g (between u v) i r s = absurd r.1

pub strict_with_monotone : (c d : PureCarrier) (f g : Action) → Keeps c f → Joins c d f g (Refutes c f Strict) (Refutes d g Monotone) Monotone
strict_with_monotone c d f g kept (at u) (at v) r s =
    let w = r.1.0 in (
      (r.0, s.0),
      subst (λ o. IsPreferred (pairs c d) (both o (g v)) (Some (pair u v))) (sym r.1.1) (⊎_elim
          (λ e. let t = preferred_value d (g v) v s.1 in
          subst (λ o. IsPreferred (pairs c d) (both (Some w) o) (Some (pair u v))) (sym t.1) (by_first (Order c w u) (Order d t.0 v) e))
          (λ e. preferred_by_second c d w u (g v) (Some v) e s.1)
          (not_after c w u (kept u w r.0 r.1.1) r.0 r.1.2)),
    )
strict_with_monotone c d f g kept (at u) (between v w) r s = absurd s.1
strict_with_monotone c d f g kept (between u v) i r s = absurd r.1

pub monotone_with_dead_strict : (c d : PureCarrier) (f g : Action) → Keeps c f → Joins c d f g (Refutes c f Monotone) (Refutes d g Dead) Strict
monotone_with_dead_strict c d f g kept (at u) (at v) r s =
    let w = preferred_value c (f u) u r.1 in (
      (r.0, s.0),
      (
        pair w.0 s.1.0,
        both_some (f u) (g v) w.0 s.1.0 w.1 s.1.1,
        less_after_less (Order c w.0 u) (Order c u w.0) (Order d v s.1.0) w.2 ((total_preorder c).flip w.0 u (kept u w.0 r.0 w.1) r.0),
      ),
    )
monotone_with_dead_strict c d f g kept (at u) (between v w) r s = absurd s.1
monotone_with_dead_strict c d f g kept (between u v) i r s = absurd r.1

pub strict_with_strict : (c d : PureCarrier) (f g : Action) → Joins c d f g (Refutes c f Strict) (Refutes d g Strict) Strict
strict_with_strict c d f g (at u) (at v) r s = (
  (r.0, s.0),
  (
    pair r.1.0 s.1.0,
    both_some (f u) (g v) r.1.0 s.1.0 r.1.1 s.1.1,
    λ h. ⊎_elim r.1.2 (λ a. s.1.2 a.1) (then_less (Order c u r.1.0) (Order d v s.1.0) h),
  ),
)
strict_with_strict c d f g (at u) (between v w) r s = absurd s.1
strict_with_strict c d f g (between u v) i r s = absurd r.1

-- a value isn't preferred to itself
pub not_same : (c : PureCarrier) (u : PureValue) → In c u → ¬ (Order c u u ≡ Less)
not_same c u i h = let e = same c u i in absurd (cc)

pub isotone_with_dead : (c d : PureCarrier) (f g : Action) → Joins c d f g (Refutes c f Isotone) (Refutes d g Dead) Isotone
isotone_with_dead c d f g (between u v) (at t) r s = (
  ((r.0.0, s.0), (r.0.1, s.0)),
  (
    λ h. ⊎_elim r.1.0 (λ a. not_same d t s.0 a.1) (then_less (Order c v u) (Order d t t) h),
    subst (λ o. IsPreferred (pairs c d) (both (f v) o) (both (f u) (g t))) (sym s.1.1) (preferred_by_first c d (f v) (f u) (g t) s.1.0 r.1.1),
  ),
)
isotone_with_dead c d f g (between u v) (between t w) r s = absurd s.1
isotone_with_dead c d f g (at u) i r s = absurd r.1

pub dead_with_isotone : (c d : PureCarrier) (f g : Action) → Keeps c f → Joins c d f g (Refutes c f Dead) (Refutes d g Isotone) Isotone
dead_with_isotone c d f g kept (at t) (between u v) r s = (
  ((r.0, s.0.0), (r.0, s.0.1)),
  (
    λ h. ⊎_elim (not_same c t r.0) (λ a. s.1.0 a.1) (then_less (Order c t t) (Order d v u) h),
    subst (λ o. IsPreferred (pairs c d) (both o (g v)) (both o (g u))) (sym r.1.1)
        (preferred_by_second c d r.1.0 r.1.0 (g v) (g u) (same c r.1.0 (kept t r.1.0 r.0 r.1.1)) s.1.1),
  ),
)
dead_with_isotone c d f g kept (at t) (at u) r s = absurd s.1
dead_with_isotone c d f g kept (between u v) i r s = absurd r.1

-- the first value has an image, and the second none
abbrev pub Splits : PureCarrier → Action → PureExample → Type 0
Splits d g (between u v) = (In d u × In d v) × ((t : PureValue) × (g u ≡ Some t)) × (g v ≡ None)
Splits d g (at u) = ⊥

pub splits : (d : PureCarrier) (g : Action) (y z : Option PureExample) → OnExample (Refutes d g Dead) y → OnExample (Refutes d g Total) z → OnExample (Splits d g) (spanned y z)
splits d g (Some (at u)) (Some (at v)) r s = ((r.0, s.0), r.1, s.1)
splits d g (Some (at u)) (Some (between v w)) r s = absurd s.1
splits d g (Some (at u)) None r s = tt
splits d g (Some (between u v)) z r s = absurd r.1
splits d g None z r s = tt

pub narrow_with_split : (c d : PureCarrier) (f g : Action) → Joins c d f g (Refutes c f Narrow) (Splits d g) Isotone
narrow_with_split c d f g (between a z) (between b t) r s = (
  ((r.0.0, s.0.1), (r.0.1, s.0.0)),
  (
    less_after_less (Order c a z) (Order c z a) (Order d b t) r.1.4 ((total_preorder c).flip a z r.0.0 r.0.1),
    subst (λ o. IsPreferred (pairs c d) o (both (f a) (g t))) (sym (both_some (f z) (g b) r.1.1 s.1.0 r.1.3 s.1.1))
        (subst (λ o. IsPreferred (pairs c d) (Some (pair r.1.1 s.1.0)) o) (sym (second_none (f a) (g t) s.2)) refl),
  ),
)
narrow_with_split c d f g (between a z) (at b) r s = absurd s
narrow_with_split c d f g (at a) i r s = absurd r.1

pub cancellative_with_condensed : (c d : PureCarrier) (f g : Action) → Keeps c f → Joins c d f g (Refutes c f Cancellative) (Refutes d g Condensed) Isotone
cancellative_with_condensed c d f g kept (between a z) (between b t) r s =
    let w = equivalent_values c (f a) (f z) r.1.0 in (
      ((r.0.0, s.0.1), (r.0.1, s.0.0)),
      (
        less_after_less (Order c a z) (Order c z a) (Order d b t) r.1.1 ((total_preorder c).flip a z r.0.0 r.0.1),
        subst (λ o. IsPreferred (pairs c d) o (both (f a) (g t))) (sym (both_some (f z) (g b) w.1 s.1.0 w.3 s.1.2))
            (subst (λ o. IsPreferred (pairs c d) (Some (pair w.1 s.1.0)) o) (sym (both_some (f a) (g t) w.0 s.1.1 w.2 s.1.3))
            (by_second (Order c w.1 w.0) (Order d s.1.0 s.1.1) Less
            (equal_flips c w.0 w.1 (kept a w.0 r.0.0 w.2) (kept z w.1 r.0.1 w.3) w.4) s.1.4)),
      ),
    )
cancellative_with_condensed c d f g kept (between a z) (at b) r s = absurd s.1
cancellative_with_condensed c d f g kept (at a) i r s = absurd r.1

-- an image of one value, twice
pub same_image : (d : PureCarrier) (g : Action) → Keeps d g → (t : PureValue) → Refutes d g Dead (at t) → AreEquivalent d (g t) (g t)
same_image d g kept t s = values_equivalent d (g t) (g t) s.1.0 s.1.0 s.1.1 s.1.1 (same d s.1.0 (kept t s.1.0 s.0 s.1.1))

pub cancellative_with_dead : (c d : PureCarrier) (f g : Action) → Keeps d g → Joins c d f g (Refutes c f Cancellative) (Refutes d g Dead) Cancellative
cancellative_with_dead c d f g kept (between u v) (at t) r s = (
  ((r.0.0, s.0), (r.0.1, s.0)),
  (equivalent_pairs c d (f u) (g t) (f v) (g t) r.1.0 (same_image d g kept t s), by_first (Order c u v) (Order d t t) r.1.1),
)
cancellative_with_dead c d f g kept (between u v) (between t w) r s = absurd s.1
cancellative_with_dead c d f g kept (at u) i r s = absurd r.1

pub dead_with_cancellative : (c d : PureCarrier) (f g : Action) → Keeps c f → Joins c d f g (Refutes c f Dead) (Refutes d g Cancellative) Cancellative
dead_with_cancellative c d f g kept (at t) (between u v) r s = (
  ((r.0, s.0.0), (r.0, s.0.1)),
  (equivalent_pairs c d (f t) (g u) (f t) (g v) (same_image c f kept t r) s.1.0, by_second (Order c t t) (Order d u v) Less (same c t r.0) s.1.1),
)
dead_with_cancellative c d f g kept (at t) (at u) r s = absurd s.1
dead_with_cancellative c d f g kept (between u v) i r s = absurd r.1

pub condensed_with_dead : (c d : PureCarrier) (f g : Action) → Joins c d f g (Refutes c f Condensed) (Refutes d g Dead) Condensed
condensed_with_dead c d f g (between u v) (at t) r s = (
  ((r.0.0, s.0), (r.0.1, s.0)),
  (
    pair r.1.0 s.1.0,
    pair r.1.1 s.1.0,
    both_some (f u) (g t) r.1.0 s.1.0 r.1.2 s.1.1,
    both_some (f v) (g t) r.1.1 s.1.0 r.1.3 s.1.1,
    by_first (Order c r.1.0 r.1.1) (Order d s.1.0 s.1.0) r.1.4,
  ),
)
condensed_with_dead c d f g (between u v) (between t w) r s = absurd s.1
condensed_with_dead c d f g (at u) i r s = absurd r.1

pub dead_with_condensed : (c d : PureCarrier) (f g : Action) → Keeps c f → Joins c d f g (Refutes c f Dead) (Refutes d g Condensed) Condensed
dead_with_condensed c d f g kept (at t) (between u v) r s = (
  ((r.0, s.0.0), (r.0, s.0.1)),
  (
    pair r.1.0 s.1.0,
    pair r.1.0 s.1.1,
    both_some (f t) (g u) r.1.0 s.1.0 r.1.1 s.1.2,
    both_some (f t) (g v) r.1.0 s.1.1 r.1.1 s.1.3,
    by_second (Order c r.1.0 r.1.0) (Order d s.1.0 s.1.1) Less (same c r.1.0 (kept t r.1.0 r.0 r.1.1)) s.1.4,
  ),
)
dead_with_condensed c d f g kept (at t) (at u) r s = absurd s.1
dead_with_condensed c d f g kept (between u v) i r s = absurd r.1

pub narrow_with_dead : (c d : PureCarrier) (f g : Action) → Joins c d f g (Refutes c f Narrow) (Refutes d g Dead) Narrow
narrow_with_dead c d f g (between u v) (at t) r s = (
  ((r.0.0, s.0), (r.0.1, s.0)),
  (
    pair r.1.0 s.1.0,
    pair r.1.1 s.1.0,
    both_some (f u) (g t) r.1.0 s.1.0 r.1.2 s.1.1,
    both_some (f v) (g t) r.1.1 s.1.0 r.1.3 s.1.1,
    by_first (Order c u v) (Order d t t) r.1.4,
  ),
)
narrow_with_dead c d f g (between u v) (between t w) r s = absurd s.1
narrow_with_dead c d f g (at u) i r s = absurd r.1

pub dead_with_narrow : (c d : PureCarrier) (f g : Action) → Joins c d f g (Refutes c f Dead) (Refutes d g Narrow) Narrow
dead_with_narrow c d f g (at t) (between u v) r s = (
  ((r.0, s.0.0), (r.0, s.0.1)),
  (
    pair r.1.0 s.1.0,
    pair r.1.0 s.1.1,
    both_some (f t) (g u) r.1.0 s.1.0 r.1.1 s.1.2,
    both_some (f t) (g v) r.1.0 s.1.1 r.1.1 s.1.3,
    by_second (Order c t t) (Order d u v) Less (same c t r.0) s.1.4,
  ),
)
dead_with_narrow c d f g (at t) (at u) r s = absurd s.1
dead_with_narrow c d f g (between u v) i r s = absurd r.1
