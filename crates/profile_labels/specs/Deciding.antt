-- Labels that decide which properties an algebra has, and lists of labels that are made of outlines.
use Rattle.std.specs.Prelude.{◌≡◌, List, true}
use Rattle.std.specs.List.{AllByRecursion}
use Rattle.alg_model.specs.Application.{IsLabel}
use Rattle.alg_model.specs.Expressions.{PureAlg, PureLabel}
use Rattle.alg_model.specs.Properties.{PureProperty}
use Rattle.alg_classes.specs.Facts.{fact_of}
use Rattle.alg_classes.specs.Growth.{GrownBy}
use Rattle.alg_classes.specs.Profiles.{ProfileOf, bit}
use Rattle.alg_classes.specs.declared.fact.Fact.{Fact}
use Rattle.alg_classes.specs.declared.profile.Profile.{Profile}
use Rattle.profile_labels.specs.Labels.{LabelledOf, of_label}
use Rattle.profile_labels.specs.Outlines.{Has}
use Rattle.profile_labels.specs.declared.labelled.Labelled.{Labelled}
use Rattle.profile_labels.specs.declared.outlined.Outlined.{Outlined}

-- all labels of the list have the fact
abbrev pub AllHave : Fact → List Labelled → Type 0
AllHave k = AllByRecursion (λ (x : Labelled). bit x.profile k ≡ true)

-- the list decides the property, of a label of this profile: it has it, if all labels of the list have it
abbrev pub IsDecided : List Labelled → Profile → PureProperty → Type 0
IsDecided xs q p = AllHave (fact_of p) xs → bit q (fact_of p) ≡ true

abbrev pub AreDecided : List Labelled → Profile → Type 0
AreDecided xs q = (p : PureProperty) → IsDecided xs q p

-- each label is the algebra's, with its profile; and a property that all of them have, each of the algebra's labels has, by
-- its profile
pub record Decides (a : PureAlg) (xs : List Labelled) : Type 0 where
  pub each : AllByRecursion (LabelledOf a) xs
  pub labels : (l : PureLabel) → IsLabel a.expression l → (q : Profile) × ProfileOf a.expression l q × AreDecided xs q

-- each label of the new list is the algebra's, if those of the old one were; it decides all properties of each profile that
-- is outlined, and of each of which the old one did
pub record DecidesMore (a : PureAlg) (outlines : List Outlined) (old new : List Labelled) : Type 0 where
  pub each : AllByRecursion (LabelledOf a) old → AllByRecursion (LabelledOf a) new
  pub kept : (q : Profile) → AreDecided old q → AreDecided new q
  pub decided : (q : Profile) → Has outlines q → AreDecided new q

-- the new list has the profiles that are outlined
abbrev pub AreGrown : PureAlg → List Outlined → List Labelled → List Labelled → Type 0
AreGrown a outlines = GrownBy of_label (LabelledOf a) (Has outlines)
