-- Actions on the two sides of a sum's or a union's values, and how facts and examples come from those of the
-- two sides.
use Rattle.std.specs.Prelude.{false, ◌&&◌, ◌||◌, Option, Some, None, option_map}
use Rattle.alg_model.specs.Expressions.{first, second}
use Rattle.alg_classes.specs.declared.profile.Profile.{Profile}
use Rattle.alg_classes.specs.declared.fact.Fact.TheVariants.{Total, Dead, Monotone, Strict, Isotone, Cancellative, Condensed, Narrow}
use Rattle.alg_classes.specs.Facts.{Action, PureExample, at, between}
use Rattle.alg_classes.specs.Classes.{PureExamples}

-- one action on the values of the first side, and another on those of the second
abbrev pub beside : Action → Action → Action
beside f g (first u) = option_map first (f u)
beside f g (second v) = option_map second (g v)
beside f g _ = None

-- each fact that both have
abbrev pub all_of_both : Profile → Profile → Profile
all_of_both p q = record {
  total = p.total && q.total;
  dead = p.dead && q.dead;
  mono = p.mono && q.mono;
  strict = p.strict && q.strict;
  iso = p.iso && q.iso;
  canc = p.canc && q.canc;
  cond = p.cond && q.cond;
  narrow = p.narrow && q.narrow;
}

-- The profile of one action beside another. Values of the first side are preferred to those of the second,
-- so images of both sides are never equivalent; and order is lost between the sides exactly where a value
-- of the first has no image, and one of the second has.
abbrev pub beside_profile : Profile → Profile → Profile
beside_profile p q = record {
  total = p.total && q.total;
  dead = p.dead && q.dead;
  mono = p.mono && q.mono;
  strict = p.strict && q.strict;
  iso = (p.iso && q.iso) && (p.total || q.dead);
  canc = p.canc && q.canc;
  cond = (p.cond && q.cond) && (p.dead || q.dead);
  narrow = (p.narrow && q.narrow) && (p.dead || q.dead);
}

-- the profile of an action beside one that denies, and of one that denies beside it
abbrev pub first_profile : Profile → Profile
first_profile p = record {
  total = false;
  dead = p.dead;
  mono = p.mono;
  strict = p.strict;
  iso = p.iso;
  canc = p.canc;
  cond = p.cond;
  narrow = p.narrow;
}

abbrev pub second_profile : Profile → Profile
second_profile q = record {
  total = false;
  dead = q.dead;
  mono = q.mono;
  strict = q.strict;
  iso = q.dead;
  canc = q.canc;
  cond = q.cond;
  narrow = q.narrow;
}

-- examples of a part, as values of its side
abbrev pub on_first : PureExample → PureExample
on_first (at u) = at (first u)
on_first (between u v) = between (first u) (first v)

abbrev pub on_second : PureExample → PureExample
on_second (at u) = at (second u)
on_second (between u v) = between (second u) (second v)

-- the example of the first side if there is one, else that of the second
abbrev pub of_either : Option PureExample → Option PureExample → Option PureExample
of_either (Some e) o = Some (on_first e)
of_either None o = option_map on_second o

-- a value of the first side and one of the second, if both are there
abbrev pub across : Option PureExample → Option PureExample → Option PureExample
across (Some (at u)) (Some (at v)) = Some (between (first u) (second v))
across _ _ = None

abbrev pub or_else : Option PureExample → Option PureExample → Option PureExample
or_else (Some e) o = Some e
or_else None o = o

abbrev pub beside_examples : PureExamples → PureExamples → PureExamples
beside_examples x y Total = of_either (x Total) (y Total)
beside_examples x y Dead = of_either (x Dead) (y Dead)
beside_examples x y Monotone = of_either (x Monotone) (y Monotone)
beside_examples x y Strict = of_either (x Strict) (y Strict)
beside_examples x y Isotone = or_else (of_either (x Isotone) (y Isotone)) (across (x Total) (y Dead))
beside_examples x y Cancellative = of_either (x Cancellative) (y Cancellative)
beside_examples x y Condensed = or_else (of_either (x Condensed) (y Condensed)) (across (x Dead) (y Dead))
beside_examples x y Narrow = or_else (of_either (x Narrow) (y Narrow)) (across (x Dead) (y Dead))
