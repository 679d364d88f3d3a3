-- Bounds on the numbers of instances.
use Rattle.std.specs.Prelude.{ℕ, Option, Some, None}
use Rattle.alg_model.specs.Expressions.{PureValue}
use Rattle.alg_model.specs.Bounds.{AtMost, LabelAtMost}
use Rattle.alg_model.specs.Verdicts.{PureInstance, PureVerdict, holds, fails, PureVerdicts, OnEach}

-- no number of the second value, if it is there, is above n
abbrev pub SecondAtMost : ℕ → Option PureValue → Type 0
SecondAtMost n None = Unit {0}
SecondAtMost n (Some v) = AtMost n v

-- no number of the label is above m, and none of the values above n
pub record InstanceAtMost (m n : ℕ) (x : PureInstance) : Type 0 where
  pub label : LabelAtMost m x.label
  pub first : AtMost n x.first
  pub second : SecondAtMost n x.second

abbrev pub VerdictAtMost : ℕ → ℕ → PureVerdict → Type 0
VerdictAtMost m n holds = Unit {0}
VerdictAtMost m n (fails x) = InstanceAtMost m n x

-- the same of each instance in the verdicts
abbrev pub VerdictsAtMost : ℕ → ℕ → PureVerdicts → Type 0
VerdictsAtMost m n = OnEach (λ p. VerdictAtMost m n)
