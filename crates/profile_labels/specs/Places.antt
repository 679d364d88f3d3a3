-- Lists of labels of an algebra that are made place by place.
use Rattle.std.specs.Prelude.{ℕ, ◌<◌, List}
use Rattle.std.specs.List.{AllByRecursion}
use Rattle.alg_model.specs.Expressions.{PureAlg, PureLabel}
use Rattle.alg_model.specs.Application.{IsLabel}
use Rattle.profile_labels.specs.declared.outlined.Outlined.{Outlined}
use Rattle.profile_labels.specs.Outlines.{AreDistinct, OutlinedOf, IsCoveredBy}

-- labels of the algebra, with their profiles, no two of which have one; among them the profile of each label at a place
-- before this one
pub record HasBefore (a : PureAlg) (label_at : ℕ → PureLabel) (place : ℕ) (xs : List Outlined) : Type 0 where
  pub distinct : AreDistinct xs
  pub each : AllByRecursion (OutlinedOf a) xs
  pub before : (p : ℕ) → p < place → IsLabel a.expression (label_at p) → IsCoveredBy a xs (label_at p)
