-- What adding the class of a row does to a list of classes.
use Rattle.std.specs.Prelude.{ℕ, List}
use Rattle.std.specs.List.{AllByRecursion}
use Rattle.alg_model.specs.Expressions.{PureAlg, row_label}
use Rattle.alg_classes.specs.declared.class.Class.{Class}
use Rattle.alg_classes.specs.declared.profile.Profile.{Profile}
use Rattle.alg_classes.specs.Classes.{ClassOf, HasProfile, IsCovered}

-- no profile is lost, no class of another algebra comes in, and the row's profile is there
pub record GainsRow (a : PureAlg) (place : ℕ) (old new : List Class) : Type 0 where
  pub keeps : (p : Profile) → HasProfile old p → HasProfile new p
  pub each : AllByRecursion (ClassOf a) old → AllByRecursion (ClassOf a) new
  pub covered : IsCovered a new (row_label place)
