-- The rules of scoped labels.
use Rattle.std.specs.Prelude.{◌≡◌}
use Rattle.alg_model.specs.Expressions.{Expression, scoped, PureCarrier, PureValue, PureLabel, outer, inner}
use Rattle.alg_model.specs.Application.{IsLabel}
use Rattle.alg_model.specs.Carriers.{carrier_of, In}
use Rattle.alg_model.specs.Formation.{IsFormed}
use Rattle.alg_classes.specs.declared.profile.Profile.{Profile}
use Rattle.alg_classes.specs.Profiles.{ProfileOf}
use Rattle.alg_classes.specs.Constants.{constant_profile, kept_profile}
use Rattle.alg_classes.specs.Pairs.{pair_profile}

-- a label of the first kind sets the second part to the constant v, and one of the second kind keeps the first
-- part; d and c are the carriers of these
abbrev pub outer_rule : PureCarrier → PureValue → Profile → Profile
outer_rule d v p = pair_profile p (constant_profile d v)

abbrev pub inner_rule : PureCarrier → Profile → Profile
inner_rule c q = pair_profile (kept_profile c) q

-- of labels with the first profile, the scoped label has the second
abbrev pub IsOuterProfile : PureCarrier → PureValue → Profile → Profile → Type 0
IsOuterProfile d v p r = (a b : Expression) (l : PureLabel) → IsFormed (scoped a b) → d ≡ carrier_of b → IsLabel (scoped a b) (outer l v)
    → ProfileOf a l p → ProfileOf (scoped a b) (outer l v) r

abbrev pub IsInnerProfile : PureCarrier → Profile → Profile → Type 0
IsInnerProfile c q r = (a b : Expression) (m : PureLabel) → IsFormed (scoped a b) → c ≡ carrier_of a → IsLabel (scoped a b) (inner m)
    → ProfileOf b m q → ProfileOf (scoped a b) (inner m) r

-- the profiles of the labels that act on the first part as one with this profile does, and set the second to any
-- value of the carrier
abbrev pub OfOuters : PureCarrier → Profile → Profile → Type 0
OfOuters d p r = (v : PureValue) × In d v × (r ≡ outer_rule d v p)
