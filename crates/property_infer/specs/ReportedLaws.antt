-- What labels tell is exact: for the algebra where they cover it, and for any set of labels whose profiles they have.
use Rattle.std.proofs.Common.{◌≡◌, sym, subst, List, [], ◌∷◌, true, ⊎_elim, arith}
use Rattle.std.specs.List.{AllByRecursion, Contains}
use Rattle.std.proofs.lemmas.List.Elements.{Contains-push, Contains-push_cases}
use Rattle.alg_model.specs.Expressions.{PureAlg, PureLabel}
use Rattle.alg_model.specs.Application.{IsLabel}
use Rattle.alg_model.specs.Bounds.{greatest_number}
use Rattle.alg_model.specs.Numbers.{max_instance_number}
use Rattle.alg_model.specs.Properties.{PureProperty}
use Rattle.alg_model.specs.Verdicts.{PureInstance, IsExact, ExactFor, PureVerdict, holds, fails, PureVerdicts, verdict_on}
use Rattle.alg_model.specs.Instances.{InstanceAtMost, VerdictAtMost, VerdictsAtMost}
use Rattle.alg_model.specs.Views.{pure_label}
use Rattle.alg_classes.specs.declared.profile.Profile.{Profile}
use Rattle.alg_classes.specs.Facts.{fact_of}
use Rattle.alg_classes.specs.FactLaws.{has_by_profile}
use Rattle.alg_classes.specs.Profiles.{bit}
use Rattle.profile_labels.specs.declared.labelled.Labelled.{Labelled}
use Rattle.profile_labels.specs.Deciding.{Decides}
use Rattle.profile_labels.specs.Labels.{CoversBy, Has as HasProfile, IsCoveredBy, LabelledOf}
use Rattle.property_infer.specs.Labels.{CoversLabels}
use Rattle.property_infer.specs.Reported.{IsMissingAmong, IsReported, AreReported}

-- What is said of labels of a set whose profiles they have is exact for it.

all_profiles : (p : PureProperty) (labels : List Labelled) (q : Profile) → AllByRecursion (λ (x : Labelled). bit x.profile (fact_of p) ≡ true) labels
    → HasProfile labels q → bit q (fact_of p) ≡ true
all_profiles p [] q all has = absurd has
all_profiles p (x ∷ xs) q all has = ⊎_elim
    (λ e. subst (λ r. bit r (fact_of p) ≡ true) e all.0)
    (λ h. all_profiles p xs q all.1 h)
    has

exact_by_missing : (a : PureAlg) (S : PureLabel → Type 0) (p : PureProperty) (labels : List Labelled) (x : PureInstance)
    → AllByRecursion (λ (y : Labelled). S (pure_label y.label)) labels → IsMissingAmong a p labels x → IsExact p a.expression S (fails x)
exact_by_missing a S p [] x of_set missing = absurd missing
exact_by_missing a S p (y ∷ ys) x of_set missing = ⊎_elim
    (λ l. (l.property, subst S (sym l.label) of_set.0, l.violates))
    (λ l. exact_by_missing a S p ys x of_set.1 l)
    missing

exact_of_each : (a : PureAlg) (S : PureLabel → Type 0) (p : PureProperty) (labels : List Labelled) (v : PureVerdict)
    → AllByRecursion (λ (x : Labelled). S (pure_label x.label)) labels → ((l : PureLabel) → S l → IsCoveredBy a labels l) → IsReported a labels p v
    → IsExact p a.expression S v
exact_of_each a S p labels holds of_set covered all = λ l s.
    let c = covered l s in has_by_profile p a.expression l c.0 c.1 (all_profiles p labels c.0 all c.2)
exact_of_each a S p labels (fails x) of_set covered missing = exact_by_missing a S p labels x of_set missing

stated_exact : (a : PureAlg) (S : PureLabel → Type 0) (labels : List Labelled) (v : PureVerdicts)
    → AllByRecursion (λ (x : Labelled). S (pure_label x.label)) labels → ((l : PureLabel) → S l → IsCoveredBy a labels l) → AreReported a labels v
    → ExactFor a.expression S v
stated_exact a S labels v of_set covered reported p = exact_of_each a S p labels (verdict_on v p) of_set covered (reported p)

-- The numbers of what is said are small.

bounded_by_missing : (a : PureAlg) (p : PureProperty) (labels : List Labelled) (x : PureInstance) → IsMissingAmong a p labels x
    → InstanceAtMost (greatest_number a.edition) max_instance_number x
bounded_by_missing a p [] x missing = absurd missing
bounded_by_missing a p (y ∷ ys) x missing = ⊎_elim (λ l. l.bound) (λ l. bounded_by_missing a p ys x l) missing

bounded_of_each : (a : PureAlg) (p : PureProperty) (labels : List Labelled) (v : PureVerdict) → IsReported a labels p v
    → VerdictAtMost (greatest_number a.edition) max_instance_number v
bounded_of_each a p labels holds reported = tt
bounded_of_each a p labels (fails x) reported = bounded_by_missing a p labels x reported

pub reported_bounded : (a : PureAlg) (labels : List Labelled) (v : PureVerdicts) → AreReported a labels v
    → VerdictsAtMost (greatest_number a.edition) max_instance_number v
reported_bounded a labels v reported p = bounded_of_each a p labels (verdict_on v p) (reported p)

-- For all labels of an algebra that the labels cover.
each_is : (a : PureAlg) (labels : List Labelled) → AllByRecursion (LabelledOf a) labels → AllByRecursion (λ (x : Labelled). IsLabel a.expression (pure_label x.label)) labels
each_is a [] each = tt
each_is a (x ∷ xs) each = (each.0.label, each_is a xs each.1)

pub stated_of_all : (a : PureAlg) (labels : List Labelled) (v : PureVerdicts) → CoversBy a labels → AreReported a labels v
    → ExactFor a.expression (IsLabel a.expression) v
stated_of_all a labels v covers reported = stated_exact a (IsLabel a.expression) labels v (each_is a labels covers.each) covers.labels reported

-- For all labels of an algebra that the labels decide.
decided_of_each : (a : PureAlg) (p : PureProperty) (labels : List Labelled) (v : PureVerdict) → Decides a labels → IsReported a labels p v
    → IsExact p a.expression (IsLabel a.expression) v
decided_of_each a p labels holds decides all = λ l is. let t = decides.labels l is in has_by_profile p a.expression l t.0 t.1 (t.2 p all)
decided_of_each a p labels (fails x) decides missing = exact_by_missing a (IsLabel a.expression) p labels x (each_is a labels decides.each) missing

pub decided_of_all : (a : PureAlg) (labels : List Labelled) (v : PureVerdicts) → Decides a labels → AreReported a labels v
    → ExactFor a.expression (IsLabel a.expression) v
decided_of_all a labels v decides reported p = decided_of_each a p labels (verdict_on v p) decides (reported p)

-- For the labels of a list.
pub reported_of_labels : (a : PureAlg) (all : List PureLabel) (labels : List Labelled) (v : PureVerdicts) → CoversLabels a all labels → AreReported a labels v
    → ExactFor a.expression (Contains all) v
reported_of_labels a all labels v c reported = stated_exact a (Contains all) labels v c.among c.covered reported

only_one : (l m : PureLabel) → Contains (l ∷ []) m → m ≡ l
only_one l m h = ⊎_elim (λ (b : Contains {X = PureLabel} [] m). absurd (omega (arith, b.1))) (λ (e : l ≡ m). sym e) (Contains-push_cases [] l m h)

only_exact : (a : PureAlg) (p : PureProperty) (l : PureLabel) (v : PureVerdict) → IsExact p a.expression (Contains (l ∷ [])) v
    → IsExact p a.expression (λ m. m ≡ l) v
only_exact a p l holds h = λ m e. h m (subst (Contains (l ∷ [])) (sym e) (Contains-push [] l))
only_exact a p l (fails x) h = (h.0, only_one l x.label h.1, h.2)

-- For one label.
pub stated_of_label : (a : PureAlg) (l : PureLabel) (labels : List Labelled) (v : PureVerdicts) → CoversLabels a (l ∷ []) labels → AreReported a labels v
    → ExactFor a.expression (λ m. m ≡ l) v
stated_of_label a l labels v c reported p = only_exact a p l (verdict_on v p) (reported_of_labels a (l ∷ []) labels v c reported p)
