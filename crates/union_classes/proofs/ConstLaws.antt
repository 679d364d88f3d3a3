-- Classes of the labels of left and right products, and lists of them that cover.
use Rattle.std.proofs.Common.{◌≡◌, refl, sym, subst, ◌∙◌, inl, inr, ⊎_elim, List, [], Some, None}
use Rattle.alg_model.specs.declared.alg.TheConstants.{MAX_INSTANCE_NUMBER}
use Rattle.alg_model.specs.declared.edition.Edition.{Edition}
use Rattle.alg_model.specs.Expressions.{Expression, PureCarrier, PureValue, left, right}
use Rattle.alg_model.specs.Expressions.{PureLabel, const_label, keep}
use Rattle.alg_model.specs.Views.{pure_label}
use Rattle.alg_model.specs.Carriers.{carrier_of, In}
use Rattle.alg_model.specs.Application.{IsLabel}
use Rattle.alg_model.specs.Bounds.{AtMost, greatest_number}
use Rattle.alg_model.specs.Formation.{IsFormed, IsCarrier}
use Rattle.alg_model.specs.Laws.{formed_left, formed_right}
use Rattle.alg_classes.specs.declared.profile.Profile.{Profile}
use Rattle.alg_classes.specs.declared.class.Class.{Class}
use Rattle.alg_classes.specs.Profiles.{ProfileOf}
use Rattle.alg_classes.specs.Classes.{pure_examples, IsSettledBy, ExamplesAtMost, ClassOf, alg_in, IsGrownBy, IsCovered, Covers}
use Rattle.alg_classes.specs.ClassLaws.{class_profile}
use Rattle.alg_model.specs.CarrierLaws.{carriers_are}
use Rattle.alg_classes.specs.Constants.{constant, kept, constant_profile, kept_profile, left_profile, right_profile}
use Rattle.alg_classes.specs.Flat.{best}
use Rattle.alg_classes.specs.Worst.{worst}
use Rattle.alg_classes.specs.WorstLaws.{as_best, as_either}
use Rattle.alg_classes.specs.Growth.{Grown, Only}
use Rattle.alg_classes.specs.RuleLaws.{class_from}
use Rattle.alg_classes.specs.GrowthLaws.{grown_by_one, grown_then}
use Rattle.union_classes.specs.Made.{OfConstants}

-- the profiles, by a carrier that is the part's
pub const_profile_of : (a : Expression) (c : PureCarrier) (v : PureValue) (p : Profile) → p ≡ constant_profile c v → IsFormed (left a)
    → c ≡ carrier_of a → In (carrier_of a) v → ProfileOf (left a) (const_label v) p
const_profile_of a c v p rule formed same i =
    subst (ProfileOf (left a) (const_label v)) (sym rule)
    (subst (λ d. ProfileOf (left a) (const_label v) (constant_profile d v)) (sym same) (left_profile a v (carriers_are a (formed_left a formed)) i))

pub keep_profile_of : (a : Expression) (c : PureCarrier) (p : Profile) → p ≡ kept_profile c → IsFormed (right a)
    → c ≡ carrier_of a → ProfileOf (right a) keep p
keep_profile_of a c p rule formed same =
    subst (ProfileOf (right a) keep) (sym rule)
    (subst (λ d. ProfileOf (right a) keep (kept_profile d)) (sym same) (right_profile a (carriers_are a (formed_right a formed))))

-- and the classes
pub const_class_of : (a : Expression) (e : Edition) (c : PureCarrier) (v : PureValue) (z : Class) → c ≡ carrier_of a → In c v
    → AtMost (greatest_number e) v → pure_label z.label ≡ const_label v → z.profile ≡ constant_profile c v
    → IsSettledBy c (constant v) (constant_profile c v) (pure_examples z.examples) → ExamplesAtMost MAX_INSTANCE_NUMBER (pure_examples z.examples)
    → ClassOf (alg_in (left a) e) z
const_class_of a e c v z same i small label profile settled bound =
    class_from (alg_in (left a) e) z (const_label v) (constant_profile c v) (pure_examples z.examples) label profile (λ k. refl)
    (subst (λ d. In d v) same i) small (subst (λ d. IsSettledBy d (constant v) (constant_profile c v) (pure_examples z.examples)) same settled) bound

pub keep_class_of : (a : Expression) (e : Edition) (c : PureCarrier) (z : Class) → c ≡ carrier_of a
    → pure_label z.label ≡ keep → z.profile ≡ kept_profile c
    → IsSettledBy c kept (kept_profile c) (pure_examples z.examples) → ExamplesAtMost MAX_INSTANCE_NUMBER (pure_examples z.examples)
    → ClassOf (alg_in (right a) e) z
keep_class_of a e c z same label profile settled bound =
    class_from (alg_in (right a) e) z keep (kept_profile c) (pure_examples z.examples) label profile (λ k. refl)
    tt tt (subst (λ d. IsSettledBy d kept (kept_profile c) (pure_examples z.examples)) same settled) bound

-- a right product has one label
each_of_right : (a : Expression) (P : PureLabel → Type 0) → P keep → (l : PureLabel) → IsLabel (right a) l → P l
each_of_right a P h keep is = h
each_of_right a P h _ is = absurd is

-- so a list of its class covers
pub right_covers : (a : Expression) (e : Edition) (z : Class) (zs : List Class) → pure_label z.label ≡ keep → ClassOf (alg_in (right a) e) z
    → IsGrownBy [] z zs → Covers (alg_in (right a) e) zs
right_covers a e z zs label is grown =
    let g = grown_by_one (ClassOf (alg_in (right a) e)) z.profile [] zs z refl is grown in
    record {
      distinct = g.distinct tt;
      each = g.each tt;
      labels = each_of_right a (IsCovered (alg_in (right a) e) zs)
          (z.profile, subst (λ l. ProfileOf (right a) l z.profile) label (class_profile (alg_in (right a) e) z is), g.reached z.profile refl);
    }

-- The constants of the best value and of the worst have the profiles of all.
pub grown_by_best : (P : Class → Type 0) (c : PureCarrier) (old new : List Class) → IsCarrier c → worst c ≡ None
    → Grown P (Only (constant_profile c (best c))) old new → Grown P (OfConstants c) old new
grown_by_best P c old new is none g = record {
  kept = g.kept;
  reached = λ p t. g.reached p (t.2 ∙ as_best c t.0 is none t.1);
  each = g.each;
  distinct = g.distinct;
}

pub grown_by_both : (P : Class → Type 0) (c : PureCarrier) (w : PureValue) (old mid new : List Class) → IsCarrier c → worst c ≡ Some w
    → Grown P (Only (constant_profile c (best c))) old mid → Grown P (Only (constant_profile c w)) mid new → Grown P (OfConstants c) old new
grown_by_both P c w old mid new is worst_is = grown_then P (Only (constant_profile c (best c))) (Only (constant_profile c w)) (OfConstants c) old mid new
    (λ p t. ⊎_elim (λ e. inl (t.2 ∙ e)) (λ e. inr (t.2 ∙ e)) (as_either c t.0 w is worst_is t.1))

-- a left product's labels are the constants, so a list of classes that has their profiles covers
each_of_left : (a : Expression) (P : PureLabel → Type 0) → ((v : PureValue) → In (carrier_of a) v → P (const_label v))
    → (l : PureLabel) → IsLabel (left a) l → P l
each_of_left a P f (const_label v) i = f v i
each_of_left a P f _ i = absurd i

pub left_covers : (a : Expression) (e : Edition) (zs : List Class) → IsCarrier (carrier_of a)
    → Grown (ClassOf (alg_in (left a) e)) (OfConstants (carrier_of a)) [] zs → Covers (alg_in (left a) e) zs
left_covers a e zs is g =
    let c = carrier_of a in
    record {
      distinct = g.distinct tt;
      each = g.each tt;
      labels = each_of_left a (IsCovered (alg_in (left a) e) zs)
          (λ v i. (constant_profile c v, left_profile a v is i, g.reached (constant_profile c v) (v, i, refl)));
    }
