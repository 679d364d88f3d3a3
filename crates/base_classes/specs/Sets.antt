-- The facts of labels on sets, all of which are equivalent, and of a gate's labels.
use Rattle.std.proofs.Common.{◌≡◌, ℕ, ◌^◌, ◌-◌, ◌<◌, refl, sym, subst, true, false, Option, Some, None}
use Rattle.std.proofs.lemmas.Nat.{pow_pos, pow_below}
use Rattle.std.proofs.lemmas.Nat.Bits.{bit_at-pow_same, bit_at-zero}
use Rattle.std.specs.Prelude.{bit_or, bit_and}
use Rattle.std.specs.declared.cmp.Ordering.TheVariants.{Less, Equal}
use Rattle.alg_model.specs.Expressions.{sets, one, PureValue, marks, unit, tags, guard, gate}
use Rattle.alg_model.specs.Expressions.{PureLabel, keep, mark, unmark, need, bar, allow, deny}
use Rattle.alg_model.specs.Carriers.{In, IsPreferred, AreEquivalent}
use Rattle.alg_model.specs.Application.{IsLabel, App, has_mark}
use Rattle.alg_classes.specs.Facts.{Action}
use Rattle.alg_classes.specs.Profiles.{bit}
use Rattle.alg_classes.specs.ClassLaws.{on_all}
use Rattle.alg_classes.specs.Constants.{denied_profile}
use Rattle.base_classes.specs.Profiles.{keep_profile, guard_profile}
use Rattle.base_classes.specs.Witnesses.{set_witness, guard_witness, unit_witness}
use Rattle.base_classes.specs.Reported.{Reports, Reported, always, never}
use Rattle.base_classes.specs.Kept.{kept_stated, dead_stated}

on_sets : (k : ℕ) (P : PureValue → Type 0) → ((m : ℕ) → P (marks m)) → (v : PureValue) → In (sets k) v → P v
on_sets k P f (marks m) i = f m
on_sets k P f _ i = absurd i

-- what holds of two images that may be none
image_monotone : (k : ℕ) (v : PureValue) (o : Option PureValue) → ¬ IsPreferred (sets k) o (Some v)
image_monotone k v None e = cc
image_monotone k v (Some w) e = cc

image_cancellative : (k : ℕ) (u v : PureValue) (o p : Option PureValue) → AreEquivalent (sets k) o p → AreEquivalent (sets k) (Some u) (Some v)
image_cancellative k u v o p h = refl

-- of a label that sends each set to a set
image_isotone : (k : ℕ) (o p : Option PureValue) (w x : PureValue) → o ≡ Some w → p ≡ Some x → ¬ IsPreferred (sets k) o p
image_isotone k o p w x g h e = let f : Equal ≡ Less = subst (λ o. IsPreferred (sets k) o (Some x)) g (subst (λ p. IsPreferred (sets k) o p) h e) in cc

total_stated : (k : ℕ) (f : Action) → ((v : PureValue) → In (sets k) v → (w : PureValue) × (f v ≡ Some w)) → Reported (sets k) f (keep_profile true) (set_witness 0 0)
total_stated k f image = on_all (λ j. Reports (sets k) f j (bit (keep_profile true) j) (set_witness 0 0 j))
    (always image)
    (never (pow_pos k, image (marks 0) (pow_pos k)))
    (always (λ v i. image_monotone k v (f v)))
    (never (pow_pos k, ((image (marks 0) (pow_pos k)).0, (image (marks 0) (pow_pos k)).1, λ e. cc)))
    (always (λ u v i j n. image_isotone k (f v) (f u) (image v j).0 (image u i).0 (image v j).1 (image u i).1))
    (always (λ u v i j. image_cancellative k u v (f u) (f v)))
    (always (λ u v w x i j g h. refl))
    (always (λ u v w x i j g h. refl))

pub tags_stated : (k : ℕ) (l : PureLabel) → IsLabel (tags k) l → Reported (sets k) (App (tags k) l) (keep_profile true) (set_witness 0 0)
tags_stated k keep i = total_stated k (App (tags k) keep) (λ v i. (v, refl))
tags_stated k (mark j) i = total_stated k (App (tags k) (mark j)) (on_sets k (λ v. (w : PureValue) × (App (tags k) (mark j) v ≡ Some w)) (λ m. (marks (bit_or m (2 ^ j)), refl)))
tags_stated k (unmark j) i = total_stated k (App (tags k) (unmark j)) (on_sets k (λ v. (w : PureValue) × (App (tags k) (unmark j) v ≡ Some w)) (λ m. (marks (bit_and m (2 ^ 64 - 1 - 2 ^ j)), refl)))
tags_stated k _ i = absurd i

-- of a label that sends a set to none, and keeps another
some_stated : (k : ℕ) (f : Action) (o s : ℕ) → o < 2 ^ k → s < 2 ^ k → f (marks o) ≡ None → f (marks s) ≡ Some (marks s) → Reported (sets k) f guard_profile (set_witness o s)
some_stated k f o s in_o in_s gone kept = on_all (λ j. Reports (sets k) f j (bit guard_profile j) (set_witness o s j))
    (never (in_o, gone))
    (never (in_s, (marks s, kept)))
    (always (λ v i. image_monotone k v (f v)))
    (never (in_s, (marks s, kept, λ e. cc)))
    (never ((in_o, in_s), (λ e. cc, subst (λ p. IsPreferred (sets k) (f (marks s)) p) (sym gone) (subst (λ p. IsPreferred (sets k) p None) (sym kept) refl))))
    (always (λ u v i j. image_cancellative k u v (f u) (f v)))
    (always (λ u v w x i j g h. refl))
    (always (λ u v w x i j g h. refl))

has_own : (j : ℕ) → has_mark (2 ^ j) j ≡ true
has_own j = rw (bit_at-pow_same j) refl

has_none : (j : ℕ) → has_mark 0 j ≡ false
has_none j = rw (bit_at-zero j) refl

pub need_stated : (k j : ℕ) → j < k → Reported (sets k) (App (guard k) (need j)) guard_profile (guard_witness (need j))
need_stated k j i = some_stated k (App (guard k) (need j)) 0 (2 ^ j) (pow_pos k) (pow_below j k i) (rw (has_none j) refl) (rw (has_own j) refl)

pub bar_stated : (k j : ℕ) → j < k → Reported (sets k) (App (guard k) (bar j)) guard_profile (guard_witness (bar j))
bar_stated k j i = some_stated k (App (guard k) (bar j)) (2 ^ j) 0 (pow_below j k i) (pow_pos k) (rw (has_own j) refl) (rw (has_none j) refl)

-- of a gate
pub allow_stated : Reported one (App gate allow) (keep_profile true) unit_witness
allow_stated = kept_stated one (App gate allow) true unit_witness unit unit unit (λ v i. refl) (λ e x y i j. refl) (λ e. absurd (cc))
    refl refl refl refl tt tt tt

pub deny_stated : Reported one (App gate deny) denied_profile unit_witness
deny_stated = dead_stated one (App gate deny) unit_witness unit (λ v i. refl) refl tt
