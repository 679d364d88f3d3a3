-- The laws of labels that cover those of a list, one label after another.
use Rattle.std.proofs.Common.{◌≡◌, List, [], ◌∷◌, ◌++◌, Result, Ok, Err, OnOk, arith, sym, subst, refl, ⊎_elim, inl}
use Rattle.std.proofs.lemmas.List.Elements.{Contains-append_left, Contains-push, Contains-push_cases}
use Rattle.std.specs.List.{AllByRecursion, Contains}
use Rattle.alg_model.specs.Expressions.{PureAlg, PureLabel}
use Rattle.alg_model.specs.Views.{pure_label}
use Rattle.alg_classes.specs.declared.profile.Profile.{Profile}
use Rattle.alg_classes.specs.Profiles.{ProfileOf}
use Rattle.alg_classes.specs.ListLaws.{all_and_one, distinct_and_one, has_left, has_right}
use Rattle.profile_labels.specs.declared.labelled.Labelled.{Labelled}
use Rattle.profile_labels.specs.Labels.{Has, IsCoveredBy, IsLabelWith, LabelledOf, of_label}
use Rattle.property_infer.specs.Labels.{CoversLabels}

pub covers_none : (a : PureAlg) → CoversLabels a [] []
covers_none a = record { distinct = tt; each = tt; among = tt; covered = λ l h. absurd (omega (arith, h.1)) }

still_among : (all : List PureLabel) (l : PureLabel) (labels : List Labelled)
    → AllByRecursion (λ (x : Labelled). Contains all (pure_label x.label)) labels
    → AllByRecursion (λ (x : Labelled). Contains (all ++ l ∷ []) (pure_label x.label)) labels
still_among all l [] h = tt
still_among all l (x ∷ xs) h = (Contains-append_left all (l ∷ []) (pure_label x.label) h.0, still_among all l xs h.1)

-- where the profiles stay and that of the label is there, one label more is covered
one_more : (a : PureAlg) (all : List PureLabel) (l : PureLabel) (old new : List Labelled) (p : Profile) → ProfileOf a.expression l p → Has new p
    → ((q : Profile) → Has old q → Has new q) → ((m : PureLabel) → Contains all m → IsCoveredBy a old m)
    → (m : PureLabel) → Contains (all ++ l ∷ []) m → IsCoveredBy a new m
one_more a all l old new p is has kept covered m h = ⊎_elim
    (λ c. let i = covered m c in (i.0, i.1, kept i.0 i.2))
    (λ e. (p, subst (λ k. ProfileOf a.expression k p) e is, has))
    (Contains-push_cases all l m h)

-- the label's profile is there
pub covers_present : (a : PureAlg) (all : List PureLabel) (l : PureLabel) (labels : List Labelled) (p : Profile) → ProfileOf a.expression l p
    → Has labels p → CoversLabels a all labels → CoversLabels a (all ++ l ∷ []) labels
covers_present a all l labels p is has c = record {
  distinct = c.distinct;
  each = c.each;
  among = still_among all l labels c.among;
  covered = one_more a all l labels labels p is has (λ q h. h) c.covered;
}

-- it is new, and comes after the others
covers_appended : (a : PureAlg) (all : List PureLabel) (l : PureLabel) (old : List Labelled) (x : Labelled) → IsLabelWith a l x.profile
    → ¬ Has old x.profile → pure_label x.label ≡ l → CoversLabels a all old → CoversLabels a (all ++ l ∷ []) (old ++ x ∷ [])
covers_appended a all l old x is none same c = record {
  distinct = distinct_and_one of_label old x c.distinct none;
  each = all_and_one (LabelledOf a) old x c.each (subst (λ k. IsLabelWith a k x.profile) (sym same) is);
  among = all_and_one (λ (x : Labelled). Contains (all ++ l ∷ []) (pure_label x.label)) old x
      (still_among all l old c.among) (subst (λ k. Contains (all ++ l ∷ []) k) (sym same) (Contains-push all l));
  covered = one_more a all l old (old ++ x ∷ []) x.profile is.profile
      (has_right of_label old (x ∷ []) x.profile (inl refl)) (λ q h. has_left of_label old (x ∷ []) q h) c.covered;
}

-- unless memory is refused
pub covers_if_pushed : {E : Type 0} (a : PureAlg) (all : List PureLabel) (l : PureLabel) (old new : List Labelled) (x : Labelled) (r : Result (Unit {0}) E)
    → IsLabelWith a l x.profile → ¬ Has old x.profile → pure_label x.label ≡ l → OnOk r (new ≡ old ++ x ∷ []) → CoversLabels a all old
    → OnOk r (CoversLabels a (all ++ l ∷ []) new)
covers_if_pushed a all l old new x (Ok u) is none same e c = subst (λ xs. CoversLabels a (all ++ l ∷ []) xs) (sym e) (covers_appended a all l old x is none same c)
covers_if_pushed a all l old new x (Err e) is none same h c = tt
