-- Classes: a label with its profile, and an example for each fact that fails; and lists of them that cover
-- an algebra.
use Rattle.std.specs.Prelude.{◌≡◌, ℕ, List, [], ◌∷◌, ◌++◌, ◌⊎◌, Bool, true, false, Option, Some, None, option_map}
use Rattle.std.specs.List.{AllByRecursion}
use Rattle.alg_model.specs.declared.edition.Edition.{Edition}
use Rattle.alg_model.specs.Numbers.{max_instance_number}
use Rattle.alg_model.specs.Expressions.{Expression, PureAlg, PureCarrier, PureLabel}
use Rattle.alg_model.specs.Views.{pure_value, pure_label}
use Rattle.alg_model.specs.Carriers.{carrier_of}
use Rattle.alg_model.specs.Application.{IsLabel, App}
use Rattle.alg_model.specs.Bounds.{AtMost, LabelAtMost, greatest_number}
use Rattle.alg_model.specs.declared.tree.Value.{Value}
use Rattle.alg_classes.specs.declared.profile.Profile.{Profile}
use Rattle.alg_classes.specs.declared.class.Examples.{Examples}
use Rattle.alg_classes.specs.declared.example.Example.{Example}
use Rattle.alg_classes.specs.declared.example.Example.TheVariants.{At, Between}
use Rattle.alg_classes.specs.declared.class.Class.{Class}
use Rattle.alg_classes.specs.declared.fact.Fact.{Fact}
use Rattle.alg_classes.specs.declared.fact.Fact.TheVariants.{Total, Dead, Monotone, Strict, Isotone, Cancellative, Condensed, Narrow}
use Rattle.alg_classes.specs.Facts.{Action, Holds, PureExample, at, between, Refutes}
use Rattle.alg_classes.specs.Profiles.{bit, ProfileOf}

abbrev pub pure_at : Value → PureExample
pure_at v = at (pure_value v)

abbrev pub pure_between : Value × Value → PureExample
pure_between p = between (pure_value p.0) (pure_value p.1)

abbrev pub pure_example : Example → PureExample
pure_example (At v) = at (pure_value v)
pure_example (Between u v) = between (pure_value u) (pure_value v)

-- an example for each fact, where there is one
abbrev pub PureExamples : Type 0
PureExamples = Fact → Option PureExample

abbrev pub pure_examples : Examples → PureExamples
pure_examples x Total = option_map pure_at x.outside
pure_examples x Dead = option_map pure_at x.inside
pure_examples x Monotone = option_map pure_at x.not_mono
pure_examples x Strict = option_map pure_at x.not_strict
pure_examples x Isotone = option_map pure_between x.not_iso
pure_examples x Cancellative = option_map pure_between x.not_canc
pure_examples x Condensed = option_map pure_between x.not_cond
pure_examples x Narrow = option_map pure_between x.not_narrow

-- the fact holds and no example is there; or it doesn't, and the example shows it
abbrev pub Settles : PureCarrier → Action → Fact → Bool → Option PureExample → Type 0
Settles c f k true None = Holds c f k
Settles c f k false (Some e) = Refutes c f k e
Settles c f k _ _ = ⊥

-- each fact is settled
abbrev pub IsSettledBy : PureCarrier → Action → Profile → PureExamples → Type 0
IsSettledBy c f p x = (k : Fact) → Settles c f k (bit p k) (x k)

-- no number of the example is above n
abbrev pub ExampleAtMost : ℕ → Option PureExample → Type 0
ExampleAtMost n None = Unit {0}
ExampleAtMost n (Some (at v)) = AtMost n v
ExampleAtMost n (Some (between u v)) = AtMost n u × AtMost n v

abbrev pub ExamplesAtMost : ℕ → PureExamples → Type 0
ExamplesAtMost n x = (k : Fact) → ExampleAtMost n (x k)

-- the algebra of an expression in an edition
abbrev pub alg_in : Expression → Edition → PureAlg
alg_in a e = record { expression = a; edition = e }

-- The label is the algebra's, no number of it is above the greatest of the algebra's edition, and each fact
-- of it is settled.
pub record ClassOf (a : PureAlg) (class : Class) : Type 0 where
  pub label : IsLabel a.expression (pure_label class.label)
  pub label_bound : LabelAtMost (greatest_number a.edition) (pure_label class.label)
  pub settled : IsSettledBy (carrier_of a.expression) (App a.expression (pure_label class.label)) class.profile (pure_examples class.examples)
  pub bound : ExamplesAtMost max_instance_number (pure_examples class.examples)

-- an item of the list has the profile
abbrev pub HasBy : {A : Type 0} → (A → Profile) → List A → Profile → Type 0
HasBy of [] p = ⊥
HasBy of (x ∷ xs) p = (of x ≡ p) ⊎ HasBy of xs p

-- no two items have one profile
abbrev pub AreDistinctBy : {A : Type 0} → (A → Profile) → List A → Type 0
AreDistinctBy of [] = Unit {0}
AreDistinctBy of (x ∷ xs) = (¬ HasBy of xs (of x)) × AreDistinctBy of xs

-- the same of classes
abbrev pub of_class : Class → Profile
of_class class = class.profile

abbrev pub HasProfile : List Class → Profile → Type 0
HasProfile = HasBy of_class

abbrev pub AreDistinct : List Class → Type 0
AreDistinct = AreDistinctBy of_class

-- the truth value says exactly whether it holds
abbrev pub IsTruthOf : Bool → Type 0 → Type 0
IsTruthOf b P = (b ≡ true → P) × (P → b ≡ true)

-- the new list is the old one with the class after it if its profile is new, and else the old one
abbrev pub IsGrownBy : List Class → Class → List Class → Type 0
IsGrownBy old class new =
    (HasProfile old class.profile × (new ≡ old)) ⊎ ((¬ HasProfile old class.profile) × (new ≡ old ++ class ∷ []))

-- the label's profile is in the list
abbrev pub IsCovered : PureAlg → List Class → PureLabel → Type 0
IsCovered a classes l = (p : Profile) × ProfileOf a.expression l p × HasProfile classes p

-- each class is the algebra's, no two have one profile, and the profile of each of its labels is there
pub record Covers (a : PureAlg) (classes : List Class) : Type 0 where
  pub distinct : AreDistinct classes
  pub each : AllByRecursion (ClassOf a) classes
  pub labels : (l : PureLabel) → IsLabel a.expression l → IsCovered a classes l
