-- The facts of labels on numbers.
use Rattle.std.proofs.Common.{◌≡◌, ℕ, ◌+◌, ◌-◌, ◌<◌, ◌≤◌, ◌==◌, refl, sym, subst, Bool, true, false, Option, Some, None, arith}
use Rattle.std.specs.Prelude.{max, min, nat_le, if◌then◌else◌}
use Rattle.std.specs.declared.cmp.Ordering.TheVariants.{Equal}
use Rattle.alg_model.specs.Expressions.{PureCarrier, PureValue, number_label, keep, number, whole, up_to, down_from, add, cap, worst, width, pref, orig}
use Rattle.alg_model.specs.Carriers.{Order, IsPreferred, AreEquivalent}
use Rattle.alg_model.specs.Application.{App}
use Rattle.alg_classes.specs.Facts.{Action}
use Rattle.alg_classes.specs.Profiles.{bit}
use Rattle.alg_classes.specs.ClassLaws.{on_all}
use Rattle.base_classes.specs.Profiles.{add_profile, cap_profile, worst_profile, width_profile, pref_profile, keep_profile}
use Rattle.base_classes.specs.Witnesses.{number_witness, add_numbers, cap_numbers, worst_numbers, width_numbers, pref_numbers, orig_numbers}
use Rattle.base_classes.specs.Compare.{less, alike, when_less, when_alike, not_less_itself, same, is_zero, not_zero, positive, not_below, above, is_less, at_least, is_at_most, is_above, tests_at_most, tests_above}
use Rattle.base_classes.specs.Reported.{Reports, Reported, always, never, on_whole, on_up, on_down, on_two_whole, on_two_up, on_two_down}
use Rattle.base_classes.specs.Kept.{kept_stated}

abbrev adds : ℕ → ℕ → ℕ → Action
adds low high n = App (add low high) (number_label n)

pub add_stated : (low high n : ℕ) → Reported whole (adds low high n) (add_profile n) (number_witness add_numbers)
add_stated low high n = on_all (λ k. Reports whole (adds low high n) k (bit (add_profile n) k) (number_witness add_numbers k))
    (always (on_whole (λ v. (w : PureValue) × (adds low high n v ≡ Some w)) (λ m. (number (m + n), refl))))
    (never (tt, (number (0 + n), refl)))
    (always (on_whole (λ v. ¬ IsPreferred whole (adds low high n v) (Some v)) (λ m e. omega (arith, when_less (m + n) m e)))) (
      λ e. on_whole (λ v. IsPreferred whole (Some v) (adds low high n v)) (λ m. less m (m + n) (omega (arith, not_zero n e))),
      λ e. (tt, (number (0 + n), refl, λ h. omega (arith, is_zero n e, when_less 0 (0 + n) h))),
    )
    (always (on_two_whole (λ u v. ¬ IsPreferred whole (Some v) (Some u) → ¬ IsPreferred whole (adds low high n v) (adds low high n u))
    (λ l m h e. h (less m l (omega (arith, when_less (m + n) (l + n) e))))))
    (always (on_two_whole (λ u v. AreEquivalent whole (adds low high n u) (adds low high n v) → AreEquivalent whole (Some u) (Some v))
    (λ l m h. alike l m (omega (arith, when_alike (l + n) (m + n) h)))))
    (never ((tt, tt), (number (0 + n), number (1 + n), refl, refl, less (0 + n) (1 + n) (omega arith))))
    (never ((tt, tt), (number (0 + n), number (1 + n), refl, refl, less 0 1 (omega arith))))

abbrev caps : ℕ → ℕ → ℕ → ℕ → Action
caps top low high n = App (cap top low high) (number_label n)

-- a sum, if it isn't too great
abbrev sum_if : Bool → ℕ → Option PureValue
sum_if b s = if b then Some (number s) else None

fits : (top m n : ℕ) → m + n ≤ top → sum_if (nat_le (m + n) top) (m + n) ≡ Some (number (m + n))
fits top m n h = rw (tests_at_most (m + n) top h) refl

fails : (top m n : ℕ) → top < m + n → sum_if (nat_le (m + n) top) (m + n) ≡ None
fails top m n h = rw (tests_above (m + n) top h) refl

was_sum : (b : Bool) (s : ℕ) (w : PureValue) → sum_if b s ≡ Some w → (b ≡ true) × (w ≡ number s)
was_sum true s w e = (refl, cc)
was_sum false s w e = absurd (cc)

sum_monotone : (top : ℕ) (b : Bool) (s m : ℕ) → m ≤ s → ¬ IsPreferred (up_to top) (sum_if b s) (Some (number m))
sum_monotone top true s m h e = omega (arith, when_less s m e)
sum_monotone top false s m h e = cc

sum_strict : (top : ℕ) (b : Bool) (s m : ℕ) → m < s → IsPreferred (up_to top) (Some (number m)) (sum_if b s)
sum_strict top true s m h = less m s h
sum_strict top false s m h = refl

sum_isotone : (top : ℕ) (b c : Bool) (s t : ℕ) → (b ≡ true → c ≡ true) → t ≤ s → ¬ IsPreferred (up_to top) (sum_if b s) (sum_if c t)
sum_isotone top true true s t i h e = omega (arith, when_less s t e)
sum_isotone top true false s t i h e = let f = i refl in cc
sum_isotone top false true s t i h e = cc
sum_isotone top false false s t i h e = cc

sum_cancellative : (top : ℕ) (b c : Bool) (s t : ℕ) → AreEquivalent (up_to top) (sum_if b s) (sum_if c t) → s ≡ t
sum_cancellative top true true s t e = when_alike s t e
sum_cancellative top true false s t e = absurd e
sum_cancellative top false true s t e = absurd e
sum_cancellative top false false s t e = absurd e

pub cap_stated : (top low high n : ℕ) → Reported (up_to top) (caps top low high n) (cap_profile top n) (number_witness (cap_numbers top n))
cap_stated top low high n = on_all (λ k. Reports (up_to top) (caps top low high n) k (bit (cap_profile top n) k) (number_witness (cap_numbers top n) k)) (
  λ e. on_up top (λ v. (w : PureValue) × (caps top low high n v ≡ Some w)) (λ m i. (number (m + n), fits top m n (omega (arith, same n 0 e)))),
  λ e. let p = positive n e in (omega arith, fails top (top + 1 - n) n (omega arith)),
) (
  λ e. on_up top (λ v. caps top low high n v ≡ None) (λ m i. fails top m n (omega (arith, is_less top n e))),
  λ e. (omega arith, (number (0 + n), fits top 0 n (omega (arith, at_least top n e)))),
)
    (always (on_up top (λ v. ¬ IsPreferred (up_to top) (caps top low high n v) (Some v)) (λ m i. sum_monotone top (nat_le (m + n) top) (m + n) m (omega arith)))) (
      λ e. on_up top (λ v. IsPreferred (up_to top) (Some v) (caps top low high n v)) (λ m i. sum_strict top (nat_le (m + n) top) (m + n) m (omega (arith, not_zero n e))),
      λ e. let z = is_zero n e in (omega arith, (number (0 + n), fits top 0 n (omega (arith, z)), λ h. omega (arith, z, when_less 0 (0 + n) h))),
    )
    (always (on_two_up top (λ u v. ¬ IsPreferred (up_to top) (Some v) (Some u) → ¬ IsPreferred (up_to top) (caps top low high n v) (caps top low high n u))
    (λ l m i j h. let k = not_below m l h in
    sum_isotone top (nat_le (m + n) top) (nat_le (l + n) top) (m + n) (l + n) (λ e. tests_at_most (l + n) top (omega (arith, k, is_at_most (m + n) top e))) (omega (arith, k)))))
    (always (on_two_up top (λ u v. AreEquivalent (up_to top) (caps top low high n u) (caps top low high n v) → AreEquivalent (up_to top) (Some u) (Some v))
    (λ l m i j h. alike l m (omega (arith, sum_cancellative top (nat_le (l + n) top) (nat_le (m + n) top) (l + n) (m + n) h))))) (
      λ e u v w x i j g h. on_two_up top (λ u v. caps top low high n u ≡ Some w → caps top low high n v ≡ Some x → Order (up_to top) w x ≡ Equal)
          (λ l m a b g h.
          let p = was_sum (nat_le (l + n) top) (l + n) w g in
          let q = was_sum (nat_le (m + n) top) (m + n) x h in
          let r = is_at_most top n e in
          subst (λ o. Order (up_to top) o x ≡ Equal) (sym p.1) (subst (λ o. Order (up_to top) (number (l + n)) o ≡ Equal) (sym q.1)
          (alike (l + n) (m + n) (omega (arith, r, is_at_most (l + n) top p.0, is_at_most (m + n) top q.0)))))
          u v i j g h,
      λ e. let r = is_above top n e in
          ((omega arith, omega (arith, r)), (number (0 + n), number (1 + n), fits top 0 n (omega (arith, r)), fits top 1 n (omega (arith, r)), less (0 + n) (1 + n) (omega arith))),
    ) (
      λ e u v w x i j g h. on_two_up top (λ u v. caps top low high n u ≡ Some w → caps top low high n v ≡ Some x → Order (up_to top) u v ≡ Equal)
          (λ l m a b g h.
          let p = was_sum (nat_le (l + n) top) (l + n) w g in
          let q = was_sum (nat_le (m + n) top) (m + n) x h in
          let r = is_at_most top n e in
          alike l m (omega (arith, r, is_at_most (l + n) top p.0, is_at_most (m + n) top q.0)))
          u v i j g h,
      λ e. let r = is_above top n e in
          ((omega arith, omega (arith, r)), (number (0 + n), number (1 + n), fits top 0 n (omega (arith, r)), fits top 1 n (omega (arith, r)), less 0 1 (omega arith))),
    )

-- the number of an image that is there
was_number : (s : ℕ) (w : PureValue) → Some (number s) ≡ Some w → w ≡ number s
was_number s w e = cc

-- images that are known numbers compare as these
compares : (c : PureCarrier) (s t : ℕ) (w x : PureValue) → Some (number s) ≡ Some w → Some (number t) ≡ Some x → Order c (number s) (number t) ≡ Equal → Order c w x ≡ Equal
compares c s t w x g h e = subst (λ o. Order c o x ≡ Equal) (sym (was_number s w g)) (subst (λ o. Order c (number s) o ≡ Equal) (sym (was_number t x h)) e)

abbrev worsens : ℕ → ℕ → ℕ → ℕ → Action
worsens top low high n = App (worst top low high) (number_label n)

pub worst_stated : (top low high n : ℕ) → n ≤ top → Reported (up_to top) (worsens top low high n) (worst_profile top n) (number_witness (worst_numbers top n))
worst_stated top low high n below = on_all (λ k. Reports (up_to top) (worsens top low high n) k (bit (worst_profile top n) k) (number_witness (worst_numbers top n) k))
    (always (on_up top (λ v. (w : PureValue) × (worsens top low high n v ≡ Some w)) (λ m i. (number (max m n), refl))))
    (never (omega arith, (number (max 0 n), refl)))
    (always (on_up top (λ v. ¬ IsPreferred (up_to top) (worsens top low high n v) (Some v)) (λ m i e. omega (arith, when_less (max m n) m e))))
    (never (omega arith, (number (max top n), refl, λ h. omega (arith, when_less top (max top n) h))))
    (always (on_two_up top (λ u v. ¬ IsPreferred (up_to top) (Some v) (Some u) → ¬ IsPreferred (up_to top) (worsens top low high n v) (worsens top low high n u))
    (λ l m i j h e. omega (arith, not_below m l h, when_less (max m n) (max l n) e)))) (
      λ e. on_two_up top (λ u v. AreEquivalent (up_to top) (worsens top low high n u) (worsens top low high n v) → AreEquivalent (up_to top) (Some u) (Some v))
          (λ l m i j h. alike l m (omega (arith, same n 0 e, when_alike (max l n) (max m n) h))),
      λ e. ((omega arith, below), (alike (max 0 n) (max n n) (omega arith), less 0 n (positive n e))),
    ) (
      λ e u v w x i j g h. on_two_up top (λ u v. worsens top low high n u ≡ Some w → worsens top low high n v ≡ Some x → Order (up_to top) w x ≡ Equal)
          (λ l m a b g h. compares (up_to top) (max l n) (max m n) w x g h (alike (max l n) (max m n) (omega (arith, same n top e)))) u v i j g h,
      λ e. ((omega arith, omega arith), (number (max 0 n), number (max top n), refl, refl, less (max 0 n) (max top n) (omega (arith, above n top e below)))),
    ) (
      λ e u v w x i j g h. on_two_up top (λ u v. Order (up_to top) u v ≡ Equal) (λ l m a b. alike l m (omega (arith, same top 0 e))) u v i j,
      λ e. ((omega arith, omega arith), (number (max 0 n), number (max top n), refl, refl, less 0 top (positive top e))),
    )

abbrev widens : ℕ → ℕ → ℕ → ℕ → Action
widens top low high n = App (width top low high) (number_label n)

pub width_stated : (top low high n : ℕ) → n ≤ top → Reported (down_from top) (widens top low high n) (width_profile top n) (number_witness (width_numbers top n))
width_stated top low high n below = on_all (λ k. Reports (down_from top) (widens top low high n) k (bit (width_profile top n) k) (number_witness (width_numbers top n) k))
    (always (on_down top (λ v. (w : PureValue) × (widens top low high n v ≡ Some w)) (λ m i. (number (min m n), refl))))
    (never (omega arith, (number (min 0 n), refl)))
    (always (on_down top (λ v. ¬ IsPreferred (down_from top) (widens top low high n v) (Some v)) (λ m i e. omega (arith, when_less m (min m n) e))))
    (never (omega arith, (number (min 0 n), refl, λ h. omega (arith, when_less (min 0 n) 0 h))))
    (always (on_two_down top (λ u v. ¬ IsPreferred (down_from top) (Some v) (Some u) → ¬ IsPreferred (down_from top) (widens top low high n v) (widens top low high n u))
    (λ l m i j h e. omega (arith, not_below l m h, when_less (min l n) (min m n) e)))) (
      λ e. on_two_down top (λ u v. AreEquivalent (down_from top) (widens top low high n u) (widens top low high n v) → AreEquivalent (down_from top) (Some u) (Some v))
          (λ l m i j h. alike m l (omega (arith, same n top e, when_alike (min m n) (min l n) h))),
      λ e. ((omega arith, below), (alike (min n n) (min top n) (omega arith), less n top (above n top e below))),
    ) (
      λ e u v w x i j g h. on_two_down top (λ u v. widens top low high n u ≡ Some w → widens top low high n v ≡ Some x → Order (down_from top) w x ≡ Equal)
          (λ l m a b g h. compares (down_from top) (min l n) (min m n) w x g h (alike (min m n) (min l n) (omega (arith, same n 0 e)))) u v i j g h,
      λ e. ((omega arith, omega arith), (number (min top n), number (min 0 n), refl, refl, less (min 0 n) (min top n) (omega (arith, positive n e)))),
    ) (
      λ e u v w x i j g h. on_two_down top (λ u v. Order (down_from top) u v ≡ Equal) (λ l m a b. alike m l (omega (arith, same top 0 e))) u v i j,
      λ e. ((omega arith, omega arith), (number (min top n), number (min 0 n), refl, refl, less 0 top (positive top e))),
    )

abbrev prefers : ℕ → ℕ → Action
prefers top n = App (pref top) (number_label n)

pub pref_stated : (top n : ℕ) → n ≤ top → Reported (down_from top) (prefers top n) (pref_profile top n) (number_witness (pref_numbers top n))
pref_stated top n below = on_all (λ k. Reports (down_from top) (prefers top n) k (bit (pref_profile top n) k) (number_witness (pref_numbers top n) k))
    (always (on_down top (λ v. (w : PureValue) × (prefers top n v ≡ Some w)) (λ m i. (number n, refl))))
    (never (omega arith, (number n, refl))) (
      λ e. on_down top (λ v. ¬ IsPreferred (down_from top) (prefers top n v) (Some v)) (λ m i h. omega (arith, same n 0 e, when_less m n h)),
      λ e. (omega arith, less 0 n (positive n e)),
    )
    (never (below, (number n, refl, not_less_itself n)))
    (always (on_two_down top (λ u v. ¬ IsPreferred (down_from top) (Some v) (Some u) → ¬ IsPreferred (down_from top) (prefers top n v) (prefers top n u))
    (λ l m i j h. not_less_itself n))) (
      λ e. on_two_down top (λ u v. AreEquivalent (down_from top) (prefers top n u) (prefers top n v) → AreEquivalent (down_from top) (Some u) (Some v))
          (λ l m i j h. alike m l (omega (arith, same top 0 e))),
      λ e. ((omega arith, omega arith), (alike n n refl, less 0 top (positive top e))),
    )
    (always (λ u v w x i j g h. on_two_down top (λ u v. prefers top n u ≡ Some w → prefers top n v ≡ Some x → Order (down_from top) w x ≡ Equal)
    (λ l m a b g h. compares (down_from top) n n w x g h (alike n n refl)) u v i j g h)) (
      λ e u v w x i j g h. on_two_down top (λ u v. Order (down_from top) u v ≡ Equal) (λ l m a b. alike m l (omega (arith, same top 0 e))) u v i j,
      λ e. ((omega arith, omega arith), (number n, number n, refl, refl, less 0 top (positive top e))),
    )

pub orig_stated : (top : ℕ) → Reported (up_to top) (App (orig top) keep) (keep_profile (top == 0)) (number_witness (orig_numbers top))
orig_stated top = kept_stated (up_to top) (App (orig top) keep) (top == 0) (number_witness (orig_numbers top)) (number 0) (number 0) (number top) (λ v i. refl)
    (λ e x y i j. on_two_up top (λ u v. Order (up_to top) u v ≡ Equal) (λ l m a b. alike l m (omega (arith, same top 0 e))) x y i j)
    (λ e. less 0 top (positive top e))
    refl refl refl refl (omega arith) (omega arith) (omega arith)
