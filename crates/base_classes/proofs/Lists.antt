-- What adding a candidate's class makes of a list.
use Rattle.std.proofs.Common.{◌≡◌, ℕ, ◌+◌, refl, subst, ◌∙◌, ⊎_elim, List, Result, Ok, Err, OnOk, arith}
use Rattle.std.proofs.lemmas.Bool.{cases_lt}
use Rattle.alg_model.specs.Expressions.{PureAlg, PureLabel}
use Rattle.alg_model.specs.Views.{pure_label}
use Rattle.alg_model.specs.Application.{IsLabel}
use Rattle.alg_model.specs.Formation.{IsAlg}
use Rattle.alg_model.specs.Forms.{IsBase}
use Rattle.alg_classes.specs.declared.class.Class.{Class}
use Rattle.alg_classes.specs.ClassLaws.{class_profile}
use Rattle.alg_classes.specs.Classes.{IsGrownBy, ClassOf, IsCovered, Covers}
use Rattle.alg_classes.specs.GrowthLaws.{grown_by_one}
use Rattle.base_classes.specs.Lists.{candidate, HasBefore}
use Rattle.base_classes.specs.CandidateLaws.{has_candidate}

-- a list that covers each candidate covers the algebra
pub covers : (a : PureAlg) (classes : List Class) → IsAlg a → IsBase a.expression → HasBefore a 4 classes → Covers a classes
covers a classes is base h = record {
  distinct = h.distinct;
  each = h.each;
  labels = λ l i.
      let c = has_candidate a.expression l base is.formed.ranges i in
      let covered = h.before c.0 c.1 c.2 in
      (covered.0, c.3 covered.0 covered.1, covered.2);
}

-- the next place, where the candidate is covered
one_more : (a : PureAlg) (place : ℕ) (classes : List Class) → HasBefore a place classes
    → (IsLabel a.expression (candidate a.expression place) → IsCovered a classes (candidate a.expression place)) → HasBefore a (place + 1) classes
one_more a place classes h has = record {
  distinct = h.distinct;
  each = h.each;
  before = λ p k i. ⊎_elim
      (λ l. h.before p l i)
      (λ l. subst (λ q. IsLabel a.expression (candidate a.expression q) → IsCovered a classes (candidate a.expression q)) (omega (arith, k, l)) has i)
      (cases_lt p place);
}

-- so too where the label is none of the algebra's, or its profile is there
pub none_added : (a : PureAlg) (place : ℕ) (classes : List Class) (l : PureLabel) → l ≡ candidate a.expression place → HasBefore a place classes
    → (IsLabel a.expression l → IsCovered a classes l) → HasBefore a (place + 1) classes
none_added a place classes l e h has = one_more a place classes h (subst (λ m. IsLabel a.expression m → IsCovered a classes m) e has)

-- and where its class is added
class_added : (a : PureAlg) (place : ℕ) (old new : List Class) (class : Class) → HasBefore a place old → ClassOf a class
    → IsGrownBy old class new → pure_label class.label ≡ candidate a.expression place → HasBefore a (place + 1) new
class_added a place old new class h is grown e =
    let g = grown_by_one (ClassOf a) class.profile old new class refl is grown in
    none_added a place new (pure_label class.label) e (record {
      distinct = g.distinct h.distinct;
      each = g.each h.each;
      before = λ p k i. let c = h.before p k i in (c.0, c.1, g.kept c.0 c.2);
    }) (λ i. (class.profile, class_profile a class is, g.reached class.profile refl))

-- unless memory is refused
pub one_added : {A E : Type 0} (a : PureAlg) (r : Result A E) (old new : List Class) (class : Class) (l : PureLabel) (place : ℕ) → ClassOf a class
    → pure_label class.label ≡ l → l ≡ candidate a.expression place → OnOk r (IsGrownBy old class new)
    → HasBefore a place old → OnOk r (HasBefore a (place + 1) new)
one_added a (Ok x) old new class l place is copied e grown h = class_added a place old new class h is grown (copied ∙ e)
one_added a (Err x) old new class l place is copied e grown h = tt
