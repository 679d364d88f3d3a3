-- The rule of pairs of labels, and the profiles that it makes of lists of classes.
use Rattle.std.specs.Prelude.{List}
use Rattle.alg_model.specs.Expressions.{Expression, lex, PureLabel, pair_label}
use Rattle.alg_model.specs.Application.{IsLabel}
use Rattle.alg_model.specs.Formation.{IsFormed}
use Rattle.alg_classes.specs.declared.profile.Profile.{Profile}
use Rattle.alg_classes.specs.declared.class.Class.{Class}
use Rattle.alg_classes.specs.Profiles.{ProfileOf}
use Rattle.alg_classes.specs.Pairs.{pair_profile}
use Rattle.alg_classes.specs.Growth.{Only, Over}

-- of labels with the two profiles, the lexical label has the third
abbrev pub IsLexProfile : Profile → Profile → Profile → Type 0
IsLexProfile p q r = (a b : Expression) (l m : PureLabel) → IsFormed (lex a b) → IsLabel a l → IsLabel b m
    → ProfileOf a l p → ProfileOf b m q → ProfileOf (lex a b) (pair_label l m) r

-- the profiles of the pairs that begin with a label of the profile, and of those that begin with one of the list
abbrev pub WithEach : List Class → Profile → Profile → Type 0
WithEach ys p = Over (λ q. Only (pair_profile p q)) ys

abbrev pub OfAllPairs : List Class → List Class → Profile → Type 0
OfAllPairs xs ys = Over (WithEach ys) xs
