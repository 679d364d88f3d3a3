-- Lists of what has a profile that grow: what one more item does, and what all items of another list do in turn.
use Rattle.std.specs.Prelude.{◌≡◌, List}
use Rattle.std.specs.List.{AllByRecursion}
use Rattle.alg_classes.specs.declared.profile.Profile.{Profile}
use Rattle.alg_classes.specs.declared.class.Class.{Class}
use Rattle.alg_classes.specs.Classes.{HasBy, AreDistinctBy, of_class}

-- The new list has the profiles of the old one, and those of T. If the old one's items were of the kind P, so are the new
-- one's, and if no two of them had one profile, no two of those have.
pub record GrownBy {A : Type 0} (of : A → Profile) (P : A → Type 0) (T : Profile → Type 0) (old new : List A) : Type 0 where
  pub kept : (p : Profile) → HasBy of old p → HasBy of new p
  pub reached : (p : Profile) → T p → HasBy of new p
  pub each : AllByRecursion P old → AllByRecursion P new
  pub distinct : AreDistinctBy of old → AreDistinctBy of new

-- this profile alone
abbrev pub Only : Profile → Profile → Type 0
Only p r = r ≡ p

-- those that S makes of the profile of some item of the list
abbrev pub OverBy : {A : Type 0} → (A → Profile) → (Profile → Profile → Type 0) → List A → Profile → Type 0
OverBy of S xs r = (p : Profile) × HasBy of xs p × S p r

-- the same of classes
abbrev pub Grown : (Class → Type 0) → (Profile → Type 0) → List Class → List Class → Type 0
Grown = GrownBy of_class

abbrev pub Over : (Profile → Profile → Type 0) → List Class → Profile → Type 0
Over = OverBy of_class
