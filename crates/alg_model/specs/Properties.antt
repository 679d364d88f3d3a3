-- The five properties of a label, over all values of the carrier (Sobrinho 2002 and 2005;
-- cancellative by Gurney and Griffin 2007).
use Rattle.std.specs.Prelude.{◌≡◌, Some}
use Rattle.alg_model.specs.Expressions.{Expression, PureLabel, PureValue}
use Rattle.alg_model.specs.Carriers.{carrier_of, In, IsPreferred, AreEquivalent}
use Rattle.alg_model.specs.Application.{App}

-- no value's image is preferred to the value
abbrev pub IsMonotone : Expression → PureLabel → Type 0
IsMonotone a l = (v : PureValue) → In (carrier_of a) v → ¬ IsPreferred (carrier_of a) (App a l v) (Some v)

-- each value is preferred to its image
abbrev pub IsStrict : Expression → PureLabel → Type 0
IsStrict a l = (v : PureValue) → In (carrier_of a) v → IsPreferred (carrier_of a) (Some v) (App a l v)

-- where v isn't preferred to u, its image isn't preferred to that of u
abbrev pub IsIsotone : Expression → PureLabel → Type 0
IsIsotone a l = (u v : PureValue) → In (carrier_of a) u → In (carrier_of a) v →
    ¬ IsPreferred (carrier_of a) (Some v) (Some u) → ¬ IsPreferred (carrier_of a) (App a l v) (App a l u)

-- values whose images are equivalent values are equivalent
abbrev pub IsCancellative : Expression → PureLabel → Type 0
IsCancellative a l = (u v : PureValue) → In (carrier_of a) u → In (carrier_of a) v →
    AreEquivalent (carrier_of a) (App a l u) (App a l v) → AreEquivalent (carrier_of a) (Some u) (Some v)

-- each value's image is a value
abbrev pub IsTotal : Expression → PureLabel → Type 0
IsTotal a l = (v : PureValue) → In (carrier_of a) v → (w : PureValue) × (App a l v ≡ Some w)

pub data PureProperty : Type 0 where
  monotone : PureProperty
  strict : PureProperty
  isotone : PureProperty
  cancellative : PureProperty
  total : PureProperty

-- the label has the property
abbrev pub Has : PureProperty → Expression → PureLabel → Type 0
Has monotone a l = IsMonotone a l
Has strict a l = IsStrict a l
Has isotone a l = IsIsotone a l
Has cancellative a l = IsCancellative a l
Has total a l = IsTotal a l
