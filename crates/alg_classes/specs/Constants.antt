-- The facts of three actions: that which sends every value to one, that which keeps every value, and that which sends
-- every value to none. With an example for each that fails, which settles it.
use Rattle.std.proofs.Common.{◌≡◌, ℕ, refl, sym, subst, Bool, true, false, not, Option, Some, None}
use Rattle.std.specs.declared.cmp.Ordering.TheVariants.{Less, Equal}
use Rattle.alg_model.specs.Expressions.{Expression, left, right, scoped}
use Rattle.alg_model.specs.Expressions.{PureCarrier, PureValue, pair}
use Rattle.alg_model.specs.Expressions.{PureLabel, const_label, keep, outer, inner}
use Rattle.alg_model.specs.Carriers.{carrier_of, In, Order}
use Rattle.alg_model.specs.Application.{App, both}
use Rattle.alg_model.specs.Bounds.{AtMost}
use Rattle.alg_model.specs.Formation.{IsCarrier}
use Rattle.alg_model.specs.Views.{pure_value}
use Rattle.alg_model.specs.declared.tree.Value.{Value}
use Rattle.alg_classes.specs.declared.profile.Profile.{Profile}
use Rattle.alg_classes.specs.declared.fact.Fact.{Fact}
use Rattle.alg_classes.specs.declared.fact.Fact.TheVariants.{Total, Dead, Monotone, Strict, Isotone, Cancellative, Condensed, Narrow}
use Rattle.alg_classes.specs.Facts.{Action, Holds, PureExample, at, between, Refutes}
use Rattle.alg_classes.specs.Profiles.{IsProfile, ProfileOf}
use Rattle.alg_classes.specs.Classes.{PureExamples, Settles, IsSettledBy}
use Rattle.alg_classes.specs.FactLaws.{Keeps}
use Rattle.alg_classes.specs.ClassLaws.{settled_profile}
use Rattle.alg_classes.specs.Flat.{IsFlat, IsWorse, HasWorse, is_flat, has_worse, best, worse_than}
use Rattle.alg_classes.specs.FlatLaws.{equivalent_itself, best_in, worse_than_is_worse, none_is_worse, flat_is_equivalent, some_is_worse}

-- every value is sent to this one
abbrev pub constant : PureValue → Action
constant v u = Some v

-- every value is sent to itself
abbrev pub kept : Action
kept u = Some u

-- every value is sent to none
abbrev pub denied : Action
denied u = None

-- the profiles of the first two, by whether the carrier is flat and whether a value is worse
abbrev pub constant_bits : Bool → Bool → Profile
constant_bits flat worse = record {
  total = true;
  dead = false;
  mono = not worse;
  strict = false;
  iso = true;
  canc = flat;
  cond = true;
  narrow = flat;
}

abbrev pub kept_bits : Bool → Profile
kept_bits flat = record {
  total = true;
  dead = false;
  mono = true;
  strict = false;
  iso = true;
  canc = true;
  cond = flat;
  narrow = flat;
}

-- the profile of the third
abbrev pub denied_profile : Profile
denied_profile = record {
  total = false;
  dead = true;
  mono = true;
  strict = true;
  iso = true;
  canc = true;
  cond = true;
  narrow = true;
}

abbrev pub constant_profile : PureCarrier → PureValue → Profile
constant_profile c v = constant_bits (is_flat c) (has_worse c v)

abbrev pub kept_profile : PureCarrier → Profile
kept_profile c = kept_bits (is_flat c)

-- the example, where the fact fails
abbrev pub unless : {X : Type 0} → Bool → X → Option X
unless true e = None
unless false e = Some e

-- a worse value of the carrier than this one, where there is one
abbrev pub some_worse : PureCarrier → PureValue → Option PureValue
some_worse c v = unless (not (has_worse c v)) (worse_than c v)

-- two values of the carrier, the first preferred, where not all are equivalent
abbrev pub two_apart : PureCarrier → Option (PureValue × PureValue)
two_apart c = unless (is_flat c) (best c, worse_than c (best c))

-- what two values of the program stand for
abbrev pub pure_two : Value × Value → PureValue × PureValue
pure_two p = (pure_value p.0, pure_value p.1)

-- a value worse than this one, or none where there is none
abbrev pub IsWorseIfAny : PureCarrier → PureValue → Option Value → Type 0
IsWorseIfAny c v None = ¬ HasWorse c v
IsWorseIfAny c v (Some w) = IsWorse c v (pure_value w)

-- two values, the first preferred, or none where all are equivalent
abbrev pub AreApartIfAny : PureCarrier → Option (Value × Value) → Type 0
AreApartIfAny c None = IsFlat c
AreApartIfAny c (Some p) = In c (pure_value p.0) × IsWorse c (pure_value p.0) (pure_value p.1)

-- no number of the two is above n
abbrev pub TwoAtMost : ℕ → Value × Value → Type 0
TwoAtMost n p = AtMost n (pure_value p.0) × AtMost n (pure_value p.1)

abbrev pub apart : PureCarrier → PureExample
apart c = between (best c) (worse_than c (best c))

abbrev pub constant_examples : PureCarrier → PureValue → PureExamples
constant_examples c v Total = None
constant_examples c v Dead = Some (at v)
constant_examples c v Monotone = unless (not (has_worse c v)) (at (worse_than c v))
constant_examples c v Strict = Some (at v)
constant_examples c v Isotone = None
constant_examples c v Cancellative = unless (is_flat c) (apart c)
constant_examples c v Condensed = None
constant_examples c v Narrow = unless (is_flat c) (apart c)

abbrev pub kept_examples : PureCarrier → PureExamples
kept_examples c Total = None
kept_examples c Dead = Some (at (best c))
kept_examples c Monotone = None
kept_examples c Strict = Some (at (best c))
kept_examples c Isotone = None
kept_examples c Cancellative = None
kept_examples c Condensed = unless (is_flat c) (apart c)
kept_examples c Narrow = unless (is_flat c) (apart c)

-- where all values are sent to none, any value shows that the action isn't total
abbrev pub denied_examples : PureValue → PureExamples
denied_examples v Total = Some (at v)
denied_examples v _ = None

settled_unless : (c : PureCarrier) (f : Action) (k : Fact) (b : Bool) (e : PureExample) → (b ≡ true → Holds c f k) → (b ≡ false → Refutes c f k e)
    → Settles c f k b (unless b e)
settled_unless c f k true e h r = h refl
settled_unless c f k false e h r = r refl

not_true : (b : Bool) → not b ≡ true → b ≡ false
not_true true e = absurd (cc)
not_true false e = refl

not_false : (b : Bool) → not b ≡ false → b ≡ true
not_false true e = refl
not_false false e = absurd (cc)

same_some : {X : Type 0} (u v : X) → Some u ≡ Some v → u ≡ v
same_some u v e = cc

-- no value is preferred to itself
not_preferred : (c : PureCarrier) (v : PureValue) → In c v → ¬ (Order c v v ≡ Less)
not_preferred c v i e = let same = equivalent_itself c v i in cc

-- equal values are equivalent
equals_equivalent : (c : PureCarrier) (u v w : PureValue) → In c u → u ≡ v → u ≡ w → Order c v w ≡ Equal
equals_equivalent c u v w i e g = subst (λ x. Order c x w ≡ Equal) e (subst (λ x. Order c u x ≡ Equal) g (equivalent_itself c u i))

-- the two values of a carrier that isn't flat
pub apart_is : (c : PureCarrier) → IsCarrier c → is_flat c ≡ false → IsWorse c (best c) (worse_than c (best c))
apart_is c is e = worse_than_is_worse c (best c) is (best_in c is) (some_is_worse c is e)

-- the facts of a constant action are settled
pub constant_settled : (c : PureCarrier) (v : PureValue) → IsCarrier c → In c v
    → IsSettledBy c (constant v) (constant_profile c v) (constant_examples c v)
constant_settled c v is i Total = λ u j. (v, refl)
constant_settled c v is i Dead = (i, (v, refl))
constant_settled c v is i Monotone = settled_unless c (constant v) Monotone (not (has_worse c v)) (at (worse_than c v))
    (λ e u j p. none_is_worse c v u is i j (not_true (has_worse c v) e) p)
    (λ e. worse_than_is_worse c v is i (not_false (has_worse c v) e))
constant_settled c v is i Strict = (i, (v, refl, not_preferred c v i))
constant_settled c v is i Isotone = λ u w j k n p. not_preferred c v i p
constant_settled c v is i Cancellative = settled_unless c (constant v) Cancellative (is_flat c) (apart c)
    (λ e u w j k g. flat_is_equivalent c u w is e j k)
    (λ e. let w = apart_is c is e in ((best_in c is, w.0), (equivalent_itself c v i, w.1)))
constant_settled c v is i Condensed = λ u w x y j k e g. equals_equivalent c v x y i (same_some v x e) (same_some v y g)
constant_settled c v is i Narrow = settled_unless c (constant v) Narrow (is_flat c) (apart c)
    (λ e u w x y j k g h. flat_is_equivalent c u w is e j k)
    (λ e. let w = apart_is c is e in ((best_in c is, w.0), (v, v, refl, refl, w.1)))

pub constant_is_profile : (c : PureCarrier) (v : PureValue) → IsCarrier c → In c v → IsProfile c (constant v) (constant_profile c v)
constant_is_profile c v is i = settled_profile c (constant v) (constant_profile c v) (constant_examples c v) (constant_settled c v is i)

pub constant_keeps : (c : PureCarrier) (v : PureValue) → In c v → Keeps c (constant v)
constant_keeps c v i u w j e = subst (In c) (same_some v w e) i

-- those of the action that keeps every value are
pub kept_settled : (c : PureCarrier) → IsCarrier c → IsSettledBy c kept (kept_profile c) (kept_examples c)
kept_settled c is Total = λ u j. (u, refl)
kept_settled c is Dead = (best_in c is, (best c, refl))
kept_settled c is Monotone = λ u j p. not_preferred c u j p
kept_settled c is Strict = (best_in c is, (best c, refl, not_preferred c (best c) (best_in c is)))
kept_settled c is Isotone = λ u w j k n p. n p
kept_settled c is Cancellative = λ u w j k e. e
kept_settled c is Condensed = settled_unless c kept Condensed (is_flat c) (apart c)
    (λ e u w x y j k g h. flat_is_equivalent c x y is e (subst (In c) (same_some u x g) j) (subst (In c) (same_some w y h) k))
    (λ e. let w = apart_is c is e in ((best_in c is, w.0), (best c, worse_than c (best c), refl, refl, w.1)))
kept_settled c is Narrow = settled_unless c kept Narrow (is_flat c) (apart c)
    (λ e u w x y j k g h. flat_is_equivalent c u w is e j k)
    (λ e. let w = apart_is c is e in ((best_in c is, w.0), (best c, worse_than c (best c), refl, refl, w.1)))

pub kept_is_profile : (c : PureCarrier) → IsCarrier c → IsProfile c kept (kept_profile c)
kept_is_profile c is = settled_profile c kept (kept_profile c) (kept_examples c) (kept_settled c is)

pub kept_keeps : (c : PureCarrier) → Keeps c kept
kept_keeps c u w j e = subst (In c) (same_some u w e) j

-- what denies all has every fact but that it is total
pub denied_settled : (c : PureCarrier) (v : PureValue) → In c v → IsSettledBy c denied denied_profile (denied_examples v)
denied_settled c v i Total = (i, refl)
denied_settled c v i Dead = λ w j. refl
denied_settled c v i Monotone = λ w j e. cc
denied_settled c v i Strict = λ w j. refl
denied_settled c v i Isotone = λ u w j k n e. cc
denied_settled c v i Cancellative = λ u w j k e. absurd e
denied_settled c v i Condensed = λ u w x y j k e g. absurd (cc)
denied_settled c v i Narrow = λ u w x y j k e g. absurd (cc)

pub denied_is_profile : (c : PureCarrier) (v : PureValue) → In c v → IsProfile c denied denied_profile
denied_is_profile c v i = settled_profile c denied denied_profile (denied_examples v) (denied_settled c v i)

pub denied_keeps : (c : PureCarrier) → Keeps c denied
denied_keeps c u w j e = absurd (cc)

-- the labels that act so: the one label of a right product, those of a left one, and the second parts of
-- the first kind of a scoped product's labels and the first parts of the second kind
pub left_acts : (a : Expression) (v : PureValue) → App (left a) (const_label v) ≡ constant v
left_acts a v = refl

pub right_acts : (a : Expression) → App (right a) keep ≡ kept
right_acts a = refl

pub outer_acts : (a b : Expression) (l : PureLabel) (w u v : PureValue) → App (scoped a b) (outer l w) (pair u v) ≡ both (App a l u) (constant w v)
outer_acts a b l w u v = refl

pub inner_acts : (a b : Expression) (m : PureLabel) (u v : PureValue) → App (scoped a b) (inner m) (pair u v) ≡ both (kept u) (App b m v)
inner_acts a b m u v = refl

-- so these labels have those profiles
pub left_profile : (a : Expression) (v : PureValue) → IsCarrier (carrier_of a) → In (carrier_of a) v
    → ProfileOf (left a) (const_label v) (constant_profile (carrier_of a) v)
left_profile a v is i = constant_is_profile (carrier_of a) v is i

pub right_profile : (a : Expression) → IsCarrier (carrier_of a) → ProfileOf (right a) keep (kept_profile (carrier_of a))
right_profile a is = kept_is_profile (carrier_of a) is

-- the same of profiles made by tests
pub constant_by_tests : (c : PureCarrier) (v : PureValue) (flat worse : Bool) → flat ≡ is_flat c → worse ≡ has_worse c v → IsCarrier c → In c v
    → IsProfile c (constant v) (constant_bits flat worse)
constant_by_tests c v flat worse f w is i =
    subst (λ b. IsProfile c (constant v) (constant_bits b worse)) (sym f)
    (subst (λ b. IsProfile c (constant v) (constant_bits (is_flat c) b)) (sym w) (constant_is_profile c v is i))

pub kept_by_test : (c : PureCarrier) (flat : Bool) → flat ≡ is_flat c → IsCarrier c → IsProfile c kept (kept_bits flat)
kept_by_test c flat f is = subst (λ b. IsProfile c kept (kept_bits b)) (sym f) (kept_is_profile c is)
