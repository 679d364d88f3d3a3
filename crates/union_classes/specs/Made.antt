-- What the program makes: examples that are given ones, classes of composed labels, profiles of constant ones,
-- and a value that the classes of an algebra show.
use Rattle.std.specs.Prelude.{◌≡◌, List, [], ◌∷◌, Option, Some, None, option_map}
use Rattle.alg_model.specs.Numbers.{max_instance_number}
use Rattle.alg_model.specs.declared.tree.Value.{Value}
use Rattle.alg_model.specs.Expressions.{PureAlg, PureCarrier, PureValue, both_label, first_label, second_label}
use Rattle.alg_model.specs.Views.{pure_label}
use Rattle.alg_model.specs.Carriers.{carrier_of, In}
use Rattle.alg_model.specs.Bounds.{AtMost}
use Rattle.alg_classes.specs.declared.profile.Profile.{Profile}
use Rattle.alg_classes.specs.declared.class.Examples.{Examples}
use Rattle.alg_classes.specs.declared.class.Class.{Class}
use Rattle.alg_classes.specs.declared.fact.Fact.TheVariants.{Total, Dead, Monotone, Strict, Isotone, Cancellative, Condensed, Narrow}
use Rattle.alg_classes.specs.Classes.{PureExamples, pure_examples, pure_at, pure_between}
use Rattle.alg_classes.specs.Constants.{constant_profile, denied_examples}
use Rattle.union_classes.specs.Sums.{beside_profile, first_profile, second_profile, beside_examples}

-- the examples are these
pub record AreExamples (x : Examples) (pure : PureExamples) : Type 0 where
  pub outside : option_map pure_at x.outside ≡ pure Total
  pub inside : option_map pure_at x.inside ≡ pure Dead
  pub not_mono : option_map pure_at x.not_mono ≡ pure Monotone
  pub not_strict : option_map pure_at x.not_strict ≡ pure Strict
  pub not_iso : option_map pure_between x.not_iso ≡ pure Isotone
  pub not_canc : option_map pure_between x.not_canc ≡ pure Cancellative
  pub not_cond : option_map pure_between x.not_cond ≡ pure Condensed
  pub not_narrow : option_map pure_between x.not_narrow ≡ pure Narrow

-- the class of the label of a sum whose parts' classes are x and y
pub record IsSumOf (x y z : Class) : Type 0 where
  pub profile : z.profile ≡ beside_profile x.profile y.profile
  pub label : pure_label z.label ≡ both_label (pure_label x.label) (pure_label y.label)
  pub examples : AreExamples z.examples (beside_examples (pure_examples x.examples) (pure_examples y.examples))

-- the class of the label of a union whose part's class is x; the value is one of the other side
pub record IsFirstOf (x : Class) (other : PureValue) (z : Class) : Type 0 where
  pub profile : z.profile ≡ first_profile x.profile
  pub label : pure_label z.label ≡ first_label (pure_label x.label)
  pub examples : AreExamples z.examples (beside_examples (pure_examples x.examples) (denied_examples other))

pub record IsSecondOf (y : Class) (other : PureValue) (z : Class) : Type 0 where
  pub profile : z.profile ≡ second_profile y.profile
  pub label : pure_label z.label ≡ second_label (pure_label y.label)
  pub examples : AreExamples z.examples (beside_examples (denied_examples other) (pure_examples y.examples))

-- the profiles of the labels that send every value of the carrier to one of them
abbrev pub OfConstants : PureCarrier → Profile → Type 0
OfConstants c p = (v : PureValue) × In c v × (p ≡ constant_profile c v)

-- a value of the algebra's carrier whose numbers may stand in an instance
abbrev pub IsValueOf : PureAlg → PureValue → Type 0
IsValueOf a v = In (carrier_of a.expression) v × AtMost max_instance_number v

abbrev pub SomeValueOf : PureAlg → Option PureValue → Type 0
SomeValueOf a None = ⊥
SomeValueOf a (Some v) = IsValueOf a v

-- the first of two values that is there
abbrev pub either_value : Option Value → Option Value → Option Value
either_value (Some v) o = Some v
either_value None o = o

-- a value that the first class shows
abbrev pub shown_value : List Class → Option Value
shown_value [] = None
shown_value (class ∷ classes) = either_value class.examples.inside class.examples.outside
