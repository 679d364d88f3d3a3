-- Lists of labels that grow.
use Rattle.std.specs.Prelude.{List}
use Rattle.alg_classes.specs.declared.profile.Profile.{Profile}
use Rattle.alg_classes.specs.Growth.{GrownBy, OverBy}
use Rattle.profile_labels.specs.declared.outlined.Outlined.{Outlined}
use Rattle.profile_labels.specs.Outlines.{of_outlined}

-- The new list has the profiles of the old one, and those of T. If the old one's labels were of the kind P, so are the new
-- one's, and if no two of them had one profile, no two of those have.
abbrev pub Grown : (Outlined → Type 0) → (Profile → Type 0) → List Outlined → List Outlined → Type 0
Grown = GrownBy of_outlined

-- the profiles that S makes of that of some label of the list
abbrev pub Over : (Profile → Profile → Type 0) → List Outlined → Profile → Type 0
Over = OverBy of_outlined
