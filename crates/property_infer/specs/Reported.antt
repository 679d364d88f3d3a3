-- What labels of an algebra tell of its properties.
use Rattle.std.specs.Prelude.{◌≡◌, List, [], ◌∷◌, ◌⊎◌, true}
use Rattle.std.specs.List.{AllByRecursion}
use Rattle.alg_model.specs.Bounds.{greatest_number}
use Rattle.alg_model.specs.Expressions.{PureAlg, PureLabel}
use Rattle.alg_model.specs.Instances.{InstanceAtMost}
use Rattle.alg_model.specs.Properties.{PureProperty}
use Rattle.alg_model.specs.Verdicts.{PureInstance, Violates, PureVerdict, holds, fails, PureVerdicts, OnEach}
use Rattle.alg_model.specs.Views.{pure_label}
use Rattle.alg_model.specs.Numbers.{max_instance_number}
use Rattle.alg_classes.specs.Facts.{fact_of}
use Rattle.alg_classes.specs.Profiles.{bit}
use Rattle.profile_labels.specs.declared.labelled.Labelled.{Labelled}

-- the instance shows that the label doesn't have the property, and its numbers are small
pub record IsMissingOf (a : PureAlg) (p : PureProperty) (l : PureLabel) (x : PureInstance) : Type 0 where
  pub property : x.property ≡ p
  pub label : x.label ≡ l
  pub violates : Violates a.expression x
  pub bound : InstanceAtMost (greatest_number a.edition) max_instance_number x

-- it shows it of one of the labels
abbrev pub IsMissingAmong : PureAlg → PureProperty → List Labelled → PureInstance → Type 0
IsMissingAmong a p [] x = ⊥
IsMissingAmong a p (y ∷ ys) x = IsMissingOf a p (pure_label y.label) x ⊎ IsMissingAmong a p ys x

-- all labels have the property, by their profiles; or the instance shows that one doesn't have it
abbrev pub IsReported : PureAlg → List Labelled → PureProperty → PureVerdict → Type 0
IsReported a labels p holds = AllByRecursion (λ (x : Labelled). bit x.profile (fact_of p) ≡ true) labels
IsReported a labels p (fails x) = IsMissingAmong a p labels x

abbrev pub AreReported : PureAlg → List Labelled → PureVerdicts → Type 0
AreReported a labels = OnEach (IsReported a labels)
