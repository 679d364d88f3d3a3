-- Labels with their profiles, which cover labels of a list.
use Rattle.std.specs.Prelude.{List}
use Rattle.std.specs.List.{AllByRecursion, Contains}
use Rattle.alg_model.specs.Expressions.{PureAlg, PureLabel}
use Rattle.alg_model.specs.Views.{pure_label}
use Rattle.profile_labels.specs.declared.labelled.Labelled.{Labelled}
use Rattle.profile_labels.specs.Labels.{AreDistinct, IsCoveredBy, LabelledOf}

-- each is one of the labels, with its profile, no two have one, and the profile of each of them is there
pub record CoversLabels (a : PureAlg) (all : List PureLabel) (labels : List Labelled) : Type 0 where
  pub distinct : AreDistinct labels
  pub each : AllByRecursion (LabelledOf a) labels
  pub among : AllByRecursion (λ (x : Labelled). Contains all (pure_label x.label)) labels
  pub covered : (l : PureLabel) → Contains all l → IsCoveredBy a labels l
