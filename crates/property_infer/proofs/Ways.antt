-- Which of the ways to show a fact is open, by the facts of the parts.
use Rattle.std.proofs.Common.{◌≡◌, true, false}
use Rattle.alg_model.specs.Expressions.{PureCarrier}
use Rattle.alg_model.specs.declared.edition.Edition.{Edition}
use Rattle.alg_classes.specs.declared.profile.Profile.{Profile}
use Rattle.alg_classes.specs.Facts as facts
use Rattle.alg_classes.specs.Facts.{Holds}
use Rattle.alg_classes.specs.Profiles.{bit, IsProfile}
use Rattle.property_infer.specs.declared.action.Action.{Action}
use Rattle.alg_classes.specs.declared.fact.Fact.{Fact}
use Rattle.alg_classes.specs.declared.fact.Fact.TheVariants.{Total, Dead, Monotone, Strict, Isotone, Cancellative, Condensed}
use Rattle.property_infer.specs.declared.pairs.OfPair.TheVariants.{Both, OutsideFirst, OutsideSecond, Split}
use Rattle.property_infer.specs.declared.sides.OfSides.TheVariants.{First, Second, Across}
use Rattle.property_infer.specs.Asked.{carrier_under, action_of, IsAction, MakesPair, MakesSides}
use Rattle.property_infer.proofs.ActionLaws.{action_keeps}
use Rattle.property_infer.specs.PairAnswers.{pair_dead, pair_total_first, pair_total_second, IsOfWorse, pair_worse_first, pair_worse_second}
use Rattle.property_infer.specs.PairAnswers.{pair_isotone_first, pair_isotone_second, pair_isotone_split, pair_isotone_tied, IsAlike, pair_alike_first, pair_alike_second}
use Rattle.property_infer.specs.SideAnswers.{IsOfEach, IsAcross, side_first, side_second, side_of_each, side_across}

-- the profile of the action
abbrev pub IsOf : Action → Profile → Type 0
IsOf x p = IsProfile (carrier_under x) (action_of x) p

misses : (c : PureCarrier) (f : facts.Action) (p : Profile) (k : Fact) → IsProfile c f p → bit p k ≡ false → ¬ Holds c f k
misses c f p k is e h = let g = (is k).1 h in absurd (cc)

-- Of a pair.

pub dead_by_both : (x y : Action) → MakesPair x y Dead (Both Dead Dead)
dead_by_both x y = λ o r a b. pair_dead (carrier_under x) (carrier_under y) (action_of x) (action_of y) o r a b

pub total_by_second : (x y : Action) (p : Profile) → IsOf x p → p.total ≡ true → MakesPair x y Total OutsideSecond
total_by_second x y p is e = λ u r s a.
    pair_total_second (carrier_under x) (carrier_under y) (action_of x) (action_of y) u r ((is Total).0 e) s.0 s.1 a

pub total_by_first : (x y : Action) (p : Profile) → IsOf x p → p.total ≡ false → MakesPair x y Total OutsideFirst
total_by_first x y p is e = λ o v a s.
    pair_total_first (carrier_under x) (carrier_under y) (action_of x) (action_of y) o v (misses (carrier_under x) (action_of x) p Total is e) a s.0 s.1

pub worse_by_second : (e : Edition) (x y : Action) (k : Fact) (p : Profile) → IsOfWorse k → IsAction e x → IsOf x p → p.mono ≡ true
    → MakesPair x y k (Both Strict k)
worse_by_second e x y k p worse action is h = λ o r a b.
    pair_worse_second (carrier_under x) (carrier_under y) (action_of x) (action_of y) k o r worse (action_keeps e x action) ((is Monotone).0 h) a b

pub worse_by_first : (e : Edition) (x y : Action) (k : Fact) (p : Profile) → IsOfWorse k → IsAction e x → IsOf x p → p.mono ≡ false
    → MakesPair x y k (Both Monotone Dead)
worse_by_first e x y k p worse action is h = λ o r a b.
    pair_worse_first (carrier_under x) (carrier_under y) (action_of x) (action_of y) k o r worse (action_keeps e x action)
    (misses (carrier_under x) (action_of x) p Monotone is h) a b

pub isotone_by_first : (x y : Action) (p : Profile) → IsOf x p → p.iso ≡ false → MakesPair x y Isotone (Both Isotone Dead)
isotone_by_first x y p is h = λ o r a b.
    pair_isotone_first (carrier_under x) (carrier_under y) (action_of x) (action_of y) o r (misses (carrier_under x) (action_of x) p Isotone is h) a b

pub isotone_by_second : (e : Edition) (x y : Action) (q : Profile) → IsAction e x → IsOf y q → q.iso ≡ false → MakesPair x y Isotone (Both Dead Isotone)
isotone_by_second e x y q action is h = λ o r a b.
    pair_isotone_second (carrier_under x) (carrier_under y) (action_of x) (action_of y) o r (action_keeps e x action)
    (misses (carrier_under y) (action_of y) q Isotone is h) a b

pub isotone_by_split : (e : Edition) (x y : Action) (p q : Profile) → IsAction e x → IsOf x p → IsOf y q → p.iso ≡ true → q.iso ≡ true → q.total ≡ false
    → MakesPair x y Isotone Split
isotone_by_split e x y p q action is_x is_y h i t = λ o r s a b d.
    pair_isotone_split (carrier_under x) (carrier_under y) (action_of x) (action_of y) o r s (action_keeps e x action) ((is_x Isotone).0 h) ((is_y Isotone).0 i)
    (misses (carrier_under y) (action_of y) q Total is_y t) a b d

pub isotone_by_ties : (e : Edition) (x y : Action) (p q : Profile) → IsAction e x → IsOf x p → IsOf y q → p.iso ≡ true → q.iso ≡ true → q.total ≡ true
    → MakesPair x y Isotone (Both Cancellative Condensed)
isotone_by_ties e x y p q action is_x is_y h i t = λ o r a b.
    pair_isotone_tied (carrier_under x) (carrier_under y) (action_of x) (action_of y) o r (action_keeps e x action) ((is_x Isotone).0 h) ((is_y Isotone).0 i)
    ((is_y Total).0 t) a b

pub alike_by_second : (e : Edition) (x y : Action) (k : Fact) (p : Profile) → IsAlike k → IsAction e x → IsOf x p → bit p k ≡ true
    → MakesPair x y k (Both Dead k)
alike_by_second e x y k p alike action is h = λ o r a b.
    pair_alike_second (carrier_under x) (carrier_under y) (action_of x) (action_of y) k o r alike (action_keeps e x action) ((is k).0 h) a b

pub alike_by_first : (e : Edition) (x y : Action) (k : Fact) (p : Profile) → IsAlike k → IsAction e y → IsOf x p → bit p k ≡ false
    → MakesPair x y k (Both k Dead)
alike_by_first e x y k p alike action is h = λ o r a b.
    pair_alike_first (carrier_under x) (carrier_under y) (action_of x) (action_of y) k o r alike (action_keeps e y action)
    (misses (carrier_under x) (action_of x) p k is h) a b

-- Of two sides.

pub by_first_side : (x y : Action) (k : Fact) (p : Profile) → IsOf x p → bit p k ≡ false → MakesSides x y k First
by_first_side x y k p is h = λ o a.
    side_first (carrier_under x) (carrier_under y) (action_of x) (action_of y) k o (misses (carrier_under x) (action_of x) p k is h) a

pub each_by_second_side : (x y : Action) (k : Fact) (p : Profile) → IsOfEach k → IsOf x p → bit p k ≡ true → MakesSides x y k Second
each_by_second_side x y k p each is h = λ r a.
    side_of_each (carrier_under x) (carrier_under y) (action_of x) (action_of y) k r each ((is k).0 h) a

pub by_second_side : (x y : Action) (k : Fact) (q : Profile) → IsOf y q → bit q k ≡ false → MakesSides x y k Second
by_second_side x y k q is h = λ r a.
    side_second (carrier_under x) (carrier_under y) (action_of x) (action_of y) k r (misses (carrier_under y) (action_of y) q k is h) a

pub by_both_sides : (x y : Action) (k m : Fact) (p q : Profile) → IsAcross k m → IsOf x p → IsOf y q → bit p k ≡ true
    → bit q k ≡ true → MakesSides x y k (Across m)
by_both_sides x y k m p q across is_x is_y h i = λ o r a b.
    side_across (carrier_under x) (carrier_under y) (action_of x) (action_of y) k m o r across
    ((is_x k).0 h) ((is_y k).0 i) a b
