-- Labels with their profiles, and lists of them that cover an algebra.
use Rattle.std.specs.Prelude.{List}
use Rattle.std.specs.List.{AllByRecursion}
use Rattle.alg_model.specs.Expressions.{PureAlg, PureLabel}
use Rattle.alg_model.specs.Views.{pure_label}
use Rattle.alg_model.specs.Application.{IsLabel}
use Rattle.alg_model.specs.Bounds.{LabelAtMost, greatest_number}
use Rattle.alg_classes.specs.declared.profile.Profile.{Profile}
use Rattle.alg_classes.specs.Profiles.{ProfileOf}
use Rattle.alg_classes.specs.Classes.{HasBy, AreDistinctBy}
use Rattle.profile_labels.specs.declared.labelled.Labelled.{Labelled}

-- The label is the algebra's, no number of it is above the greatest of the algebra's edition, and this is its profile.
pub record IsLabelWith (a : PureAlg) (l : PureLabel) (p : Profile) : Type 0 where
  pub label : IsLabel a.expression l
  pub small : LabelAtMost (greatest_number a.edition) l
  pub profile : ProfileOf a.expression l p

abbrev pub LabelledOf : PureAlg → Labelled → Type 0
LabelledOf a x = IsLabelWith a (pure_label x.label) x.profile

-- a label of the list has the profile, and no two have one
abbrev pub of_label : Labelled → Profile
of_label x = x.profile

abbrev pub Has : List Labelled → Profile → Type 0
Has = HasBy of_label

abbrev pub AreDistinct : List Labelled → Type 0
AreDistinct = AreDistinctBy of_label

-- the label's profile is in the list
abbrev pub IsCoveredBy : PureAlg → List Labelled → PureLabel → Type 0
IsCoveredBy a xs l = (p : Profile) × ProfileOf a.expression l p × Has xs p

-- each label is the algebra's, with its profile, no two have one, and the profile of each of the algebra's labels is there
pub record CoversBy (a : PureAlg) (xs : List Labelled) : Type 0 where
  pub distinct : AreDistinct xs
  pub each : AllByRecursion (LabelledOf a) xs
  pub labels : (l : PureLabel) → IsLabel a.expression l → IsCoveredBy a xs l
