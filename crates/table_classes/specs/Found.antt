-- What a search over the values of a row finds.
use Rattle.std.specs.Prelude.{ℕ, Option, Some, None, option_map}
use Rattle.std.specs.Option.{is_none}
use Rattle.alg_model.specs.Expressions.{PureCarrier, name}
use Rattle.alg_model.specs.declared.tree.Value.{Value, Name}
use Rattle.alg_model.specs.declared.tree.Label.{Label}
use Rattle.alg_classes.specs.declared.profile.Profile.{Profile}
use Rattle.alg_classes.specs.declared.class.Examples.{Examples}
use Rattle.alg_classes.specs.declared.class.Class.{Class}
use Rattle.alg_classes.specs.declared.fact.Fact.{Fact}
use Rattle.alg_classes.specs.Facts.{Action, Holds, PureExample, at, between, FailsAt, Refutes}
use Rattle.alg_classes.specs.Classes.{pure_at, pure_between, PureExamples, pure_examples}
use Rattle.table_classes.specs.declared.found.Found.{Found}
use Rattle.table_classes.specs.Rows.{PureRow, row_carrier, row_action}

-- the fact fails at this place
abbrev pub FailsAtPlace : PureRow → Fact → ℕ → Type 0
FailsAtPlace row k u = FailsAt (row_carrier row) (row_action row) k (at (name u))

-- the fact fails between these places
abbrev pub FailsBetween : PureRow → Fact → ℕ → ℕ → Type 0
FailsBetween row k u v = FailsAt (row_carrier row) (row_action row) k (between (name u) (name v))

-- the values at two places
abbrev pub named_pair : ℕ × ℕ → Value × Value
named_pair p = (Name p.0, Name p.1)

-- the examples at the places that were found
abbrev pub value_example : Option ℕ → Option PureExample
value_example o = option_map pure_at (option_map Name o)

abbrev pub pair_example : Option (ℕ × ℕ) → Option PureExample
pair_example o = option_map pure_between (option_map named_pair o)

abbrev pub found_examples : Found → Examples
found_examples x = record {
  inside = option_map Name x.inside;
  outside = option_map Name x.outside;
  not_mono = option_map Name x.not_mono;
  not_strict = option_map Name x.not_strict;
  not_iso = option_map named_pair x.not_iso;
  not_canc = option_map named_pair x.not_canc;
  not_cond = option_map named_pair x.not_cond;
  not_narrow = option_map named_pair x.not_narrow;
}

-- a fact holds exactly if no example of it was found
abbrev pub found_profile : Found → Profile
found_profile x = record {
  total = is_none x.outside;
  dead = is_none x.inside;
  mono = is_none x.not_mono;
  strict = is_none x.not_strict;
  iso = is_none x.not_iso;
  canc = is_none x.not_canc;
  cond = is_none x.not_cond;
  narrow = is_none x.not_narrow;
}

abbrev pub found_class : Label → Found → Class
found_class l x = record {
  profile = found_profile x;
  label = l;
  examples = found_examples x;
}

-- with no example the fact holds, and else the example refutes it
abbrev pub IsAnswer : PureCarrier → Action → Fact → Option PureExample → Type 0
IsAnswer c f k None = Holds c f k
IsAnswer c f k (Some e) = Refutes c f k e

abbrev pub IsAnswerOf : PureRow → Fact → Option PureExample → Type 0
IsAnswerOf row = IsAnswer (row_carrier row) (row_action row)

-- each fact is answered
abbrev pub AreAnswers : PureCarrier → Action → PureExamples → Type 0
AreAnswers c f x = (k : Fact) → IsAnswer c f k (x k)

abbrev pub AreAnswersOf : PureRow → Found → Type 0
AreAnswersOf row x = AreAnswers (row_carrier row) (row_action row) (pure_examples (found_examples x))
