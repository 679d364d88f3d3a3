-- The eight facts of what a label does to the values of a carrier, and what shows that one fails. Five are the
-- properties of labels; the rules of composed labels ask for the other three of their parts.
use Rattle.std.specs.Prelude.{◌≡◌, Option, Some, None}
use Rattle.alg_model.specs.Expressions.{PureCarrier, PureValue}
use Rattle.alg_model.specs.Carriers.{In, IsPreferred, AreEquivalent}
use Rattle.alg_model.specs.Properties.{PureProperty, monotone, strict, isotone, cancellative, total}
use Rattle.alg_classes.specs.declared.fact.Fact.{Fact}
use Rattle.alg_classes.specs.declared.fact.Fact.TheVariants.{Total, Dead, Monotone, Strict, Isotone, Cancellative, Condensed, Narrow}

-- what a label makes of the values: its image of each, or none
abbrev pub Action : Type 0
Action = PureValue → Option PureValue

-- the fact that a property is
abbrev pub fact_of : PureProperty → Fact
fact_of monotone = Monotone
fact_of strict = Strict
fact_of isotone = Isotone
fact_of cancellative = Cancellative
fact_of total = Total

-- The fact holds over all values: no value is sent to none, or each is; no image is preferred to its value, or each
-- value to its image; order is kept; no values become equivalent that weren't; all images are equivalent; and so are all
-- values that have one.
abbrev pub Holds : PureCarrier → Action → Fact → Type 0
Holds c f Total = (v : PureValue) → In c v → (w : PureValue) × (f v ≡ Some w)
Holds c f Dead = (v : PureValue) → In c v → f v ≡ None
Holds c f Monotone = (v : PureValue) → In c v → ¬ IsPreferred c (f v) (Some v)
Holds c f Strict = (v : PureValue) → In c v → IsPreferred c (Some v) (f v)
Holds c f Isotone = (u v : PureValue) → In c u → In c v → ¬ IsPreferred c (Some v) (Some u) → ¬ IsPreferred c (f v) (f u)
Holds c f Cancellative = (u v : PureValue) → In c u → In c v → AreEquivalent c (f u) (f v) → AreEquivalent c (Some u) (Some v)
Holds c f Condensed = (u v w x : PureValue) → In c u → In c v → f u ≡ Some w → f v ≡ Some x → AreEquivalent c (Some w) (Some x)
Holds c f Narrow = (u v w x : PureValue) → In c u → In c v → f u ≡ Some w → f v ≡ Some x → AreEquivalent c (Some u) (Some v)

-- a value, or two, at which a fact fails
pub data PureExample : Type 0 where
  at : PureValue → PureExample
  between : PureValue → PureValue → PureExample

abbrev pub ExampleIn : PureCarrier → PureExample → Type 0
ExampleIn c (at v) = In c v
ExampleIn c (between u v) = In c u × In c v

-- At these values the fact fails. Of two values that show that a label isn't cancellative, condensed or narrow, the first
-- is preferred, or has the preferred image.
abbrev pub FailsAt : PureCarrier → Action → Fact → PureExample → Type 0
FailsAt c f Total (at v) = f v ≡ None
FailsAt c f Dead (at v) = (w : PureValue) × (f v ≡ Some w)
FailsAt c f Monotone (at v) = IsPreferred c (f v) (Some v)
FailsAt c f Strict (at v) = (w : PureValue) × (f v ≡ Some w) × ¬ IsPreferred c (Some v) (Some w)
FailsAt c f Isotone (between u v) = (¬ IsPreferred c (Some v) (Some u)) × IsPreferred c (f v) (f u)
FailsAt c f Cancellative (between u v) = AreEquivalent c (f u) (f v) × IsPreferred c (Some u) (Some v)
FailsAt c f Condensed (between u v) = (w x : PureValue) × (f u ≡ Some w) × (f v ≡ Some x) × IsPreferred c (Some w) (Some x)
FailsAt c f Narrow (between u v) = (w x : PureValue) × (f u ≡ Some w) × (f v ≡ Some x) × IsPreferred c (Some u) (Some v)
FailsAt _ _ _ _ = ⊥

-- the example is of the carrier's values, and shows that the fact fails
abbrev pub Refutes : PureCarrier → Action → Fact → PureExample → Type 0
Refutes c f k e = ExampleIn c e × FailsAt c f k e
