-- Labels that are made of labels of an algebra's parts, with their profiles, and lists of them that cover an algebra.
use Rattle.std.specs.Prelude.{List, Option, Some, None}
use Rattle.std.specs.List.{AllByRecursion}
use Rattle.alg_model.specs.Carriers.{carrier_of}
use Rattle.alg_model.specs.Expressions.{PureAlg, PureCarrier, PureValue, PureLabel}
use Rattle.alg_model.specs.Expressions.{pair_label, both_label, first_label, second_label, outer, inner}
use Rattle.alg_model.specs.Views.{pure_label}
use Rattle.alg_model.specs.Application.{IsLabel}
use Rattle.alg_classes.specs.Classes.{HasBy, AreDistinctBy}
use Rattle.alg_classes.specs.Flat.{best}
use Rattle.alg_classes.specs.Profiles.{ProfileOf}
use Rattle.alg_classes.specs.Worst.{worst}
use Rattle.alg_classes.specs.declared.profile.Profile.{Profile}
use Rattle.profile_labels.specs.declared.extreme.Extreme.{Extreme}
use Rattle.profile_labels.specs.declared.extreme.Extreme.TheVariants.{Best, Worst}
use Rattle.profile_labels.specs.declared.outline.Outline as outline
use Rattle.profile_labels.specs.declared.outlined.Outlined.{Outlined}
use Rattle.profile_labels.specs.Labels.{IsLabelWith}

-- the value, or the first where there is none
abbrev pub value_or : PureValue → Option PureValue → PureValue
value_or u None = u
value_or u (Some v) = v

-- the best value of the carrier; or the worst, and where there is no worst the best
abbrev pub extreme_of : PureCarrier → Extreme → PureValue
extreme_of c Best = best c
extreme_of c Worst = value_or (best c) (worst c)

-- the label that an outline describes
abbrev pub outline_label : outline.Outline → PureLabel
outline_label (outline.Whole label) = pure_label label
outline_label (outline.Pair' p l q m) = pair_label (outline_label l) (outline_label m)
outline_label (outline.Both' p l q m) = both_label (outline_label l) (outline_label m)
outline_label (outline.First' p l) = first_label (outline_label l)
outline_label (outline.Second' p m) = second_label (outline_label m)
outline_label (outline.Outer' p l second end) = outer (outline_label l) (extreme_of (carrier_of second) end)
outline_label (outline.Inner' p m) = inner (outline_label m)

abbrev pub OutlinedOf : PureAlg → Outlined → Type 0
OutlinedOf a x = IsLabelWith a (outline_label x.outline.value) x.profile

-- a label of the list has the profile, and no two have one
abbrev pub of_outlined : Outlined → Profile
of_outlined x = x.profile

abbrev pub Has : List Outlined → Profile → Type 0
Has = HasBy of_outlined

abbrev pub AreDistinct : List Outlined → Type 0
AreDistinct = AreDistinctBy of_outlined

-- the label's profile is in the list
abbrev pub IsCoveredBy : PureAlg → List Outlined → PureLabel → Type 0
IsCoveredBy a xs l = (p : Profile) × ProfileOf a.expression l p × Has xs p

-- each label is the algebra's, with its profile, no two have one, and the profile of each of the algebra's labels is there
pub record CoversBy (a : PureAlg) (xs : List Outlined) : Type 0 where
  pub distinct : AreDistinct xs
  pub each : AllByRecursion (OutlinedOf a) xs
  pub labels : (l : PureLabel) → IsLabel a.expression l → IsCoveredBy a xs l
