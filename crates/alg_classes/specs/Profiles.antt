-- The exact facts of a label.
use Rattle.std.specs.Prelude.{◌≡◌, Bool, true}
use Rattle.alg_model.specs.Expressions.{Expression, PureCarrier, PureLabel}
use Rattle.alg_model.specs.Carriers.{carrier_of}
use Rattle.alg_model.specs.Application.{App}
use Rattle.alg_classes.specs.declared.profile.Profile.{Profile}
use Rattle.alg_classes.specs.declared.fact.Fact.{Fact}
use Rattle.alg_classes.specs.declared.fact.Fact.TheVariants.{Total, Dead, Monotone, Strict, Isotone, Cancellative, Condensed, Narrow}
use Rattle.alg_classes.specs.Facts.{Action, Holds}

-- what the profile says of the fact
abbrev pub bit : Profile → Fact → Bool
bit p Total = p.total
bit p Dead = p.dead
bit p Monotone = p.mono
bit p Strict = p.strict
bit p Isotone = p.iso
bit p Cancellative = p.canc
bit p Condensed = p.cond
bit p Narrow = p.narrow

-- the profile says of each fact that it holds, exactly where it does
abbrev pub IsProfile : PureCarrier → Action → Profile → Type 0
IsProfile c f p = (k : Fact) → (bit p k ≡ true → Holds c f k) × (Holds c f k → bit p k ≡ true)

-- the profile is the label's
abbrev pub ProfileOf : Expression → PureLabel → Profile → Type 0
ProfileOf a l = IsProfile (carrier_of a) (App a l)
