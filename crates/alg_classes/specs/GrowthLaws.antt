-- Laws of lists of what has a profile that grow, for the proofs of loops.
use Rattle.std.proofs.Common.{◌≡◌, refl, sym, subst, ◌∙◌, ℕ, ◌+◌, ◌<◌, ◌≤◌, List, [], ◌∷◌, ◌++◌, length, take, get_or, ◌⊎◌, inl, inr, ⊎_elim}
use Rattle.std.proofs.lemmas.List.{take_more, take_all}
use Rattle.alg_classes.specs.declared.profile.Profile.{Profile}
use Rattle.alg_classes.specs.declared.class.Class.{Class}
use Rattle.alg_classes.specs.Classes.{HasBy, HasProfile, IsGrownBy, of_class}
use Rattle.alg_classes.specs.ListLaws.{has_left, has_right, has_either, all_and_one, distinct_and_one}
use Rattle.alg_classes.specs.Growth.{GrownBy, Grown, Only, OverBy}

-- a list that has the profile need not grow for it
pub grown_already : {A : Type 0} {of : A → Profile} (P : A → Type 0) (p : Profile) (old : List A) → HasBy of old p → GrownBy of P (Only p) old old
grown_already {A} {of} P p old has = record {
  kept = λ r h. h;
  reached = λ r e. subst (HasBy of old) (sym e) has;
  each = λ a. a;
  distinct = λ d. d;
}

-- a list grows by an item of the kind, and of a new profile
pub grown_by_new : {A : Type 0} {of : A → Profile} (P : A → Type 0) (p : Profile) (old new : List A) (x : A) → of x ≡ p → P x → ¬ HasBy of old p
    → new ≡ old ++ x ∷ [] → GrownBy of P (Only p) old new
grown_by_new {A} {of} P p old new x profile is none e = subst (GrownBy of P (Only p) old) (sym e) (record {
  kept = λ r h. has_left of old (x ∷ []) r h;
  reached = λ r e. has_right of old (x ∷ []) r (inl (profile ∙ sym e));
  each = λ a. all_and_one P old x a is;
  distinct = λ d. distinct_and_one of old x d (λ h. none (subst (HasBy of old) profile h));
})

-- a list of classes grows by a class of the kind
pub grown_by_one : (P : Class → Type 0) (p : Profile) (old new : List Class) (class : Class) → class.profile ≡ p → P class
    → IsGrownBy old class new → Grown P (Only p) old new
grown_by_one P p old new class profile is grown = ⊎_elim
    (λ g. subst (Grown P (Only p) old) (sym g.1) (grown_already {of = of_class} P p old (subst (HasProfile old) profile g.0)))
    (λ g. grown_by_new {of = of_class} P p old new class profile is (λ h. g.0 (subst (HasProfile old) (sym profile) h)) g.1)
    grown

-- no item of the other list is done yet
pub grown_none : {A : Type 0} {of : A → Profile} (P : A → Type 0) (S : Profile → Profile → Type 0) (old : List A) → GrownBy of P (OverBy of S []) old old
grown_none P S old = record {
  kept = λ r h. h;
  reached = λ r t. absurd t.1;
  each = λ a. a;
  distinct = λ d. d;
}

-- the profiles of T, and then those of U
pub grown_then : {A : Type 0} {of : A → Profile} (P : A → Type 0) (T U V : Profile → Type 0) (old mid new : List A) → ((r : Profile) → V r → T r ⊎ U r)
    → GrownBy of P T old mid → GrownBy of P U mid new → GrownBy of P V old new
grown_then P T U V old mid new either g h = record {
  kept = λ r has. h.kept r (g.kept r has);
  reached = λ r v. ⊎_elim (λ t. h.kept r (g.reached r t)) (λ u. h.reached r u) (either r v);
  each = λ a. h.each (g.each a);
  distinct = λ d. h.distinct (g.distinct d);
}

over_more : {A : Type 0} (of : A → Profile) (S : Profile → Profile → Type 0) (done : List A) (x : A) (r : Profile)
    → OverBy of S (done ++ x ∷ []) r → OverBy of S done r ⊎ S (of x) r
over_more of S done x r v = ⊎_elim
    (λ h. inl (v.0, h, v.2))
    (λ h. ⊎_elim (λ e. inr (subst (λ p. S p r) (sym e) v.2)) (λ b. absurd b) h)
    (has_either of done (x ∷ []) v.0 v.1)

-- one more item of the other list is done
pub grown_more : {A : Type 0} {of : A → Profile} (P : A → Type 0) (S : Profile → Profile → Type 0) (others : List A) (i : ℕ) (x : A) (old mid new : List A)
    → i < length others → x ≡ get_or others i x → GrownBy of P (OverBy of S (take i others)) old mid → GrownBy of P (S (of x)) mid new
    → GrownBy of P (OverBy of S (take (i + 1) others)) old new
grown_more {A} {of} P S others i x old mid new within is g h =
    let front : take (i + 1) others ≡ take i others ++ x ∷ [] =
    take_more others i x within ∙ subst (λ y. take i others ++ get_or others i x ∷ [] ≡ take i others ++ y ∷ []) (sym is) refl in
    subst (λ ys. GrownBy of P (OverBy of S ys) old new) (sym front)
    (grown_then P (OverBy of S (take i others)) (S (of x)) (OverBy of S (take i others ++ x ∷ [])) old mid new (over_more of S (take i others) x) g h)

-- all are done
pub grown_all : {A : Type 0} {of : A → Profile} (P : A → Type 0) (S : Profile → Profile → Type 0) (others : List A) (n : ℕ) (old new : List A)
    → length others ≤ n → GrownBy of P (OverBy of S (take n others)) old new → GrownBy of P (OverBy of S others) old new
grown_all {A} {of} P S others n old new all = subst (λ ys. GrownBy of P (OverBy of S ys) old new) (take_all n others all)
