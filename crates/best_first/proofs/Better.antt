-- Which of two routes, or none, is unbeaten.
use Rattle.std.proofs.Common.{◌≡◌, ◌≢◌, Option, Some, None, IfSome, Bool, true, false, cond, ◌⊎◌, inl, inr, refl}
use Rattle.std.specs.declared.cmp.Ordering.{Ordering}
use Rattle.std.specs.declared.cmp.Ordering.TheVariants.{Less, Equal, Greater}
use Rattle.alg_model.specs.Expressions.{PureCarrier}
use Rattle.alg_model.specs.Carriers.{In}
use Rattle.net_graph.specs.Routes.{PureRoute, compare_routes, Better, is_less, is_better}
use Rattle.best_first.specs.Found.{better_of}
use Rattle.net_graph.specs.RouteOrder.{not_better_trans, better_asymmetric}

-- the second isn't better than the first
abbrev pub IsUnbeaten : PureCarrier → Option PureRoute → Option PureRoute → Type 0
IsUnbeaten c (Some r) (Some s) = ¬ Better c s r
IsUnbeaten c (Some r) None = Unit {0}
IsUnbeaten c None (Some s) = ⊥
IsUnbeaten c None None = Unit {0}

pub unbeaten_by_all : (c : PureCarrier) (x y z : Option PureRoute) → IfSome x (λ r. In c r.value) → IfSome y (λ r. In c r.value) → IfSome z (λ r. In c r.value)
    → IsUnbeaten c x y → IsUnbeaten c y z → IsUnbeaten c x z
unbeaten_by_all c (Some x) (Some y) (Some z) i j k f g = not_better_trans c x y z i j k f g
unbeaten_by_all c (Some x) (Some y) None i j k f g = tt
unbeaten_by_all c (Some x) None (Some z) i j k f g = absurd g
unbeaten_by_all c (Some x) None None i j k f g = tt
unbeaten_by_all c None (Some y) z i j k f g = absurd f
unbeaten_by_all c None None z i j k f g = g

pub not_itself : (c : PureCarrier) (x : Option PureRoute) → IfSome x (λ r. In c r.value) → IsUnbeaten c x x
not_itself c None i = tt
not_itself c (Some x) i = λ e. better_asymmetric c x x i i e e

is_less-true : (o : Ordering) → is_less o ≡ true → o ≡ Less
is_less-true Less e = refl
is_less-true Equal e = absurd (cc)
is_less-true Greater e = absurd (cc)

is_less-false : (o : Ordering) → is_less o ≡ false → o ≢ Less
is_less-false Less e f = absurd (cc)
is_less-false Equal e f = absurd (cc)
is_less-false Greater e f = absurd (cc)

-- the better of two is one of them, and neither is better than it
pub better_is_one : (c : PureCarrier) (x y : Option PureRoute) → (better_of c x y ≡ x) ⊎ (better_of c x y ≡ y)
better_is_one c x None = inl refl
better_is_one c None (Some s) = inr refl
better_is_one c (Some r) (Some s) = by (is_better c s r)
  where
    by : (b : Bool) → (cond b (Some s) (Some r) ≡ Some r) ⊎ (cond b (Some s) (Some r) ≡ Some s)
    by true = inr refl
    by false = inl refl

pub better_beats_both : (c : PureCarrier) (x y : Option PureRoute) → IfSome x (λ r. In c r.value) → IfSome y (λ r. In c r.value)
    → IsUnbeaten c (better_of c x y) x × IsUnbeaten c (better_of c x y) y
better_beats_both c x None i j = (not_itself c x i, last x)
  where
    last : (x : Option PureRoute) → IsUnbeaten c x None
    last None = tt
    last (Some r) = tt
better_beats_both c None (Some s) i j = (tt, not_itself c (Some s) j)
better_beats_both c (Some r) (Some s) i j = by (is_better c s r) refl
  where
    by : (b : Bool) → is_better c s r ≡ b → IsUnbeaten c (cond b (Some s) (Some r)) (Some r) × IsUnbeaten c (cond b (Some s) (Some r)) (Some s)
    by true e = (better_asymmetric c s r j i (is_less-true (compare_routes c s r) e), not_itself c (Some s) j)
    by false e = (not_itself c (Some r) i, is_less-false (compare_routes c s r) e)

-- to take the same offer twice is to take it once
pub better_twice : (c : PureCarrier) (x y : Option PureRoute) → better_of c (better_of c x y) y ≡ better_of c x y
better_twice c x None = refl
better_twice c None (Some s) = by (is_better c s s)
  where
    by : (b : Bool) → cond b (Some s) (Some s) ≡ Some s
    by true = refl
    by false = refl
better_twice c (Some r) (Some s) = by (is_better c s r) (is_better c s s) refl
  where
    by : (a b : Bool) → is_better c s r ≡ a → better_of c (cond a (Some s) (Some r)) (Some s) ≡ cond a (Some s) (Some r)
    by true b e = both (is_better c s s)
      where
        both : (b : Bool) → cond b (Some s) (Some s) ≡ Some s
        both true = refl
        both false = refl
    by false b e = rw e refl
