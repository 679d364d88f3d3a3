-- What the program's actions stand for; and what it asks of the parts of a pair, or of the two
-- sides of a value, whose examples then answer for both together.
use Rattle.std.specs.Prelude.{Option, Some, option_map}
use Rattle.alg_model.specs.Numbers.{max_instance_number}
use Rattle.alg_model.specs.declared.edition.Edition.{Edition}
use Rattle.alg_model.specs.Application.{IsLabel, App}
use Rattle.alg_model.specs.Bounds.{AtMost, LabelAtMost, greatest_number}
use Rattle.alg_model.specs.Carriers.{carrier_of, In}
use Rattle.alg_model.specs.Expressions.{Expression, PureCarrier, PureValue, pairs, sides}
use Rattle.alg_model.specs.Formation.{IsAlg}
use Rattle.alg_model.specs.Views.{expression_of, pure_label, pure_value}
use Rattle.alg_classes.specs.Facts as facts
use Rattle.alg_classes.specs.Facts.{PureExample, at}
use Rattle.alg_classes.specs.Classes.{alg_in, pure_example}
use Rattle.alg_classes.specs.Constants.{constant, kept, denied}
use Rattle.alg_classes.specs.Pairs.{paired, spanned}
use Rattle.alg_classes.specs.Pairs as pair
use Rattle.union_classes.specs.Sums.{on_first, on_second, across}
use Rattle.union_classes.specs.Sums as side
use Rattle.property_infer.specs.declared.action.Action.{Action}
use Rattle.property_infer.specs.declared.action.Action.TheVariants.{OfLabel, Constant, Keep, Deny}
use Rattle.alg_classes.specs.declared.example.Example.{Example}
use Rattle.alg_classes.specs.declared.fact.Fact.{Fact}
use Rattle.alg_classes.specs.declared.fact.Fact.TheVariants.{Total, Dead, Narrow}
use Rattle.property_infer.specs.declared.pairs.OfPair.{OfPair}
use Rattle.property_infer.specs.declared.pairs.OfPair.TheVariants.{Both, OutsideFirst, OutsideSecond, Split}
use Rattle.property_infer.specs.declared.sides.OfSides.{OfSides}
use Rattle.property_infer.specs.declared.sides.OfSides.TheVariants.{First, Second, Across}
use Rattle.property_infer.specs.Answers.{Answers}

-- the part that the action is on, and what it does to the values of that
abbrev pub part_of : Action → Expression
part_of (OfLabel part label) = expression_of part.now
part_of (Constant part value) = expression_of part.now
part_of (Keep part) = expression_of part.now
part_of (Deny part) = expression_of part.now

abbrev pub carrier_under : Action → PureCarrier
carrier_under x = carrier_of (part_of x)

abbrev pub action_of : Action → facts.Action
action_of (OfLabel part label) = App (expression_of part.now) (pure_label label.now)
action_of (Constant part value) = constant (pure_value value.now)
action_of (Keep part) = kept
action_of (Deny part) = denied

-- the label is the part's, or the value is, and no number is above the greatest of an edition
abbrev pub IsOfPart : Edition → Action → Type 0
IsOfPart e (OfLabel part label) =
    IsLabel (expression_of part.now) (pure_label label.now) × LabelAtMost (greatest_number e) (pure_label label.now)
IsOfPart e (Constant part value) =
    In (carrier_of (expression_of part.now)) (pure_value value.now) × AtMost (greatest_number e) (pure_value value.now)
IsOfPart e (Keep part) = Unit {0}
IsOfPart e (Deny part) = Unit {0}

-- it is an action on a part of an algebra of the edition
pub record IsAction (e : Edition) (x : Action) : Type 0 where
  pub alg : IsAlg (alg_in (part_of x) e)
  pub of_part : IsOfPart e x

-- the example answers whether the fact holds of the action
abbrev pub ToFact : Action → Fact → Option PureExample → Type 0
ToFact x k = Answers (carrier_under x) (action_of x) k

abbrev pub AnswersFor : Action → Fact → Option Example → Type 0
AnswersFor x k o = ToFact x k (option_map pure_example o)

-- the same of two actions, one on each part of a pair, and of one on each side
abbrev pub AnswersForPair : Action → Action → Fact → Option PureExample → Type 0
AnswersForPair x y = Answers (pairs (carrier_under x) (carrier_under y)) (paired (action_of x) (action_of y))

abbrev pub AnswersForSides : Action → Action → Fact → Option PureExample → Type 0
AnswersForSides x y = Answers (sides (carrier_under x) (carrier_under y)) (side.beside (action_of x) (action_of y))

-- a value of the part, with small numbers
abbrev pub IsSmallIn : Action → PureValue → Type 0
IsSmallIn x v = In (carrier_under x) v × AtMost max_instance_number v

-- whatever answers what is asked of the parts makes an answer for the pair
abbrev pub MakesPair : Action → Action → Fact → OfPair → Type 0
MakesPair x y k (Both p q) =
    (o r : Option PureExample) → ToFact x p o → ToFact y q r → AnswersForPair x y k (pair.beside o r)
MakesPair x y k OutsideFirst =
    (o : Option PureExample) (v : PureValue) → ToFact x Total o → IsSmallIn y v → AnswersForPair x y k (pair.beside o (Some (at v)))
MakesPair x y k OutsideSecond =
    (u : PureValue) (r : Option PureExample) → IsSmallIn x u → ToFact y Total r → AnswersForPair x y k (pair.beside (Some (at u)) r)
MakesPair x y k Split =
    (o r s : Option PureExample) → ToFact x Narrow o → ToFact y Dead r → ToFact y Total s
    → AnswersForPair x y k (pair.beside o (spanned r s))

-- and of the sides, for both
abbrev pub MakesSides : Action → Action → Fact → OfSides → Type 0
MakesSides x y k First = (o : Option PureExample) → ToFact x k o → AnswersForSides x y k (option_map on_first o)
MakesSides x y k Second = (r : Option PureExample) → ToFact y k r → AnswersForSides x y k (option_map on_second r)
MakesSides x y k (Across p) =
    (o r : Option PureExample) → ToFact x p o → ToFact y Dead r → AnswersForSides x y k (across o r)
