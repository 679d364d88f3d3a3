-- What violates a property, and what makes verdicts exact.
use Rattle.std.specs.Prelude.{◌≡◌, Option, Some, None}
use Rattle.alg_model.specs.Expressions.{Expression, PureLabel, PureValue}
use Rattle.alg_model.specs.Carriers.{carrier_of, In, IsPreferred, AreEquivalent}
use Rattle.alg_model.specs.Application.{IsLabel, App}
use Rattle.alg_model.specs.Properties.{PureProperty, monotone, strict, isotone, cancellative, total, Has}

-- a label with values at which it is said not to have a property
pub record PureInstance : Type 0 where
  pub property : PureProperty
  pub label : PureLabel
  pub first : PureValue
  pub second : Option PureValue

-- at these values the label doesn't have the property
abbrev pub Shows : PureProperty → Expression → PureLabel → PureValue → Option PureValue → Type 0
Shows monotone a l u None = IsPreferred (carrier_of a) (App a l u) (Some u)
Shows strict a l u None = (w : PureValue) × (App a l u ≡ Some w) × ¬ IsPreferred (carrier_of a) (Some u) (Some w)
Shows isotone a l u (Some v) = (¬ IsPreferred (carrier_of a) (Some v) (Some u)) × IsPreferred (carrier_of a) (App a l v) (App a l u)
Shows cancellative a l u (Some v) = AreEquivalent (carrier_of a) (App a l u) (App a l v) × ¬ AreEquivalent (carrier_of a) (Some u) (Some v)
Shows total a l u None = App a l u ≡ None
Shows _ _ _ _ _ = ⊥

-- the second value is in the carrier, if it is there
abbrev pub SecondIn : Expression → Option PureValue → Type 0
SecondIn a None = Unit {0}
SecondIn a (Some v) = In (carrier_of a) v

-- the instance's label and values are the algebra's
pub record IsInstanceOf (a : Expression) (x : PureInstance) : Type 0 where
  pub label : IsLabel a x.label
  pub first : In (carrier_of a) x.first
  pub second : SecondIn a x.second

-- the instance is the algebra's, and shows that its label doesn't have its property
pub record Violates (a : Expression) (x : PureInstance) : Type 0 where
  pub is_of : IsInstanceOf a x
  pub shows : Shows x.property a x.label x.first x.second

-- a property holds, or it fails, with an instance
pub data PureVerdict : Type 0 where
  holds : PureVerdict
  fails : PureInstance → PureVerdict

pub record PureVerdicts : Type 0 where
  pub monotone : PureVerdict
  pub strict : PureVerdict
  pub isotone : PureVerdict
  pub cancellative : PureVerdict
  pub total : PureVerdict

-- all labels of the set have the property; or one of them violates it
abbrev pub IsExact : PureProperty → Expression → (PureLabel → Type 0) → PureVerdict → Type 0
IsExact p a S holds = (l : PureLabel) → S l → Has p a l
IsExact p a S (fails x) = (x.property ≡ p) × S x.label × Violates a x

-- the verdict on one property
abbrev pub verdict_on : PureVerdicts → PureProperty → PureVerdict
verdict_on v monotone = v.monotone
verdict_on v strict = v.strict
verdict_on v isotone = v.isotone
verdict_on v cancellative = v.cancellative
verdict_on v total = v.total

-- what is said of the verdict on each property
abbrev pub OnEach : (PureProperty → PureVerdict → Type 0) → PureVerdicts → Type 0
OnEach P v = (p : PureProperty) → P p (verdict_on v p)

-- the verdicts are right for the labels of the set
abbrev pub ExactFor : Expression → (PureLabel → Type 0) → PureVerdicts → Type 0
ExactFor a S = OnEach (λ p. IsExact p a S)
