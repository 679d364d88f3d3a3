-- The rule of lexical pairs: what a pair of labels makes of pairs of values, its profile, and its examples.
use Rattle.std.specs.Prelude.{◌&&◌, ◌||◌, Option, Some, None}
use Rattle.std.specs.Option.{option_or}
use Rattle.alg_model.specs.Expressions.{pair}
use Rattle.alg_model.specs.Application.{both}
use Rattle.alg_classes.specs.declared.profile.Profile.{Profile}
use Rattle.alg_classes.specs.declared.fact.Fact.TheVariants.{Total, Dead, Monotone, Strict, Isotone, Cancellative, Condensed, Narrow}
use Rattle.alg_classes.specs.Facts.{Action, PureExample, at, between}
use Rattle.alg_classes.specs.Classes.{PureExamples}

-- each part of a pair is acted on by its own
abbrev pub paired : Action → Action → Action
paired f g (pair u v) = both (f u) (g v)
paired f g _ = None

-- the profile of the pair from those of its parts
abbrev pub pair_profile : Profile → Profile → Profile
pair_profile p q = record {
  total = p.total && q.total;
  dead = p.dead || q.dead;
  mono = (p.dead || q.dead) || (p.strict || (p.mono && q.mono));
  strict = (p.dead || q.dead) || (p.strict || (p.mono && q.strict));
  iso = (p.dead || q.dead) || ((p.iso && q.iso) && (p.narrow || (q.total && (p.canc || q.cond))));
  canc = (p.dead || q.dead) || (p.canc && q.canc);
  cond = (p.dead || q.dead) || (p.cond && q.cond);
  narrow = (p.dead || q.dead) || (p.narrow && q.narrow);
}

-- The example that two of the parts make, if both are there. Two values of both parts are paired crosswise.
abbrev pub beside : Option PureExample → Option PureExample → Option PureExample
beside (Some (at u)) (Some (at v)) = Some (at (pair u v))
beside (Some (at w)) (Some (between u v)) = Some (between (pair w u) (pair w v))
beside (Some (between u v)) (Some (at w)) = Some (between (pair u w) (pair v w))
beside (Some (between t u)) (Some (between v w)) = Some (between (pair t w) (pair u v))
beside _ _ = None

-- both values as one example, if both are there
abbrev pub spanned : Option PureExample → Option PureExample → Option PureExample
spanned (Some (at u)) (Some (at v)) = Some (between u v)
spanned _ _ = None

-- a value of the carrier: each value has an image or has none
abbrev pub some_value : PureExamples → Option PureExample
some_value x = option_or (x Dead) (x Total)

-- the examples of the pair from those of its parts
abbrev pub pair_examples : PureExamples → PureExamples → PureExamples
pair_examples x y Total = option_or (beside (x Total) (some_value y)) (beside (some_value x) (y Total))
pair_examples x y Dead = beside (x Dead) (y Dead)
pair_examples x y Monotone = option_or (beside (x Monotone) (y Dead)) (beside (x Strict) (y Monotone))
pair_examples x y Strict = option_or (beside (x Monotone) (y Dead)) (beside (x Strict) (y Strict))
pair_examples x y Isotone =
    option_or (beside (x Isotone) (y Dead)) (option_or (beside (x Dead) (y Isotone))
    (option_or (beside (x Narrow) (spanned (y Dead) (y Total))) (beside (x Cancellative) (y Condensed))))
pair_examples x y Cancellative = option_or (beside (x Cancellative) (y Dead)) (beside (x Dead) (y Cancellative))
pair_examples x y Condensed = option_or (beside (x Condensed) (y Dead)) (beside (x Dead) (y Condensed))
pair_examples x y Narrow = option_or (beside (x Narrow) (y Dead)) (beside (x Dead) (y Narrow))
