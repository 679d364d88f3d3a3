-- Examples made of values that stand for the pure ones settle the facts too, and are small.
use Rattle.std.proofs.Common.{◌≡◌, sym, ap, subst, refl, Bool, true, false, not, Option, Some, None, option_map, IfSome}
use Rattle.alg_model.specs.Bounds.{AtMost}
use Rattle.alg_model.specs.Carriers.{In}
use Rattle.alg_model.specs.Expressions.{PureCarrier, PureValue}
use Rattle.alg_model.specs.Formation.{IsCarrier}
use Rattle.alg_model.specs.Views.{pure_value}
use Rattle.alg_model.specs.declared.alg.TheConstants.{MAX_INSTANCE_NUMBER}
use Rattle.alg_model.specs.declared.edition.TheConstants.{MAX_LABEL_NUMBER}
use Rattle.alg_model.specs.declared.tree.Value.{Value}
use Rattle.alg_classes.specs.declared.class.Examples.{Examples}
use Rattle.alg_classes.specs.Classes.{pure_at, pure_between, pure_examples, Settles, IsSettledBy, ExampleAtMost, ExamplesAtMost}
use Rattle.alg_classes.specs.Constants.{constant, kept, constant_profile, kept_profile, unless, some_worse, two_apart, pure_two, TwoAtMost, constant_settled, kept_settled}
use Rattle.alg_classes.specs.declared.fact.Fact.TheVariants.{Total, Dead, Monotone, Strict, Isotone, Cancellative, Condensed, Narrow}
use Rattle.alg_classes.specs.Facts.{at, between}
use Rattle.alg_classes.specs.Flat.{is_flat, has_worse, best, worse_than}
use Rattle.alg_classes.specs.FlatLaws.{value_fits}

abbrev pub examples_of_constant : Value → Option Value → Value → Option (Value × Value) → Option (Value × Value) → Examples
examples_of_constant inside worse kept two two_more = record {
  inside = Some inside;
  outside = None;
  not_mono = worse;
  not_strict = Some kept;
  not_iso = None;
  not_canc = two;
  not_cond = None;
  not_narrow = two_more;
}

abbrev pub examples_of_kept : Value → Value → Option (Value × Value) → Option (Value × Value) → Examples
examples_of_kept inside kept two two_more = record {
  inside = Some inside;
  outside = None;
  not_mono = None;
  not_strict = Some kept;
  not_iso = None;
  not_canc = None;
  not_cond = two;
  not_narrow = two_more;
}

-- as examples
one_example : (w : Option Value) (b : Bool) (x : PureValue) → option_map pure_value w ≡ unless b x → option_map pure_at w ≡ unless b (at x)
one_example None true x e = refl
one_example None false x e = absurd (cc)
one_example (Some w) true x e = absurd (cc)
one_example (Some w) false x e = ap (option_map at) e

two_example : (p : Option (Value × Value)) (b : Bool) (x y : PureValue) → option_map pure_two p ≡ unless b (x, y)
    → option_map pure_between p ≡ unless b (between x y)
two_example None true x y e = refl
two_example None false x y e = absurd (cc)
two_example (Some p) true x y e = absurd (cc)
two_example (Some p) false x y e = ap (option_map (λ (t : PureValue × PureValue). between t.0 t.1)) e

one_small : (w : Option Value) → IfSome w (λ w. AtMost MAX_INSTANCE_NUMBER (pure_value w)) → ExampleAtMost MAX_INSTANCE_NUMBER (option_map pure_at w)
one_small None h = tt
one_small (Some w) h = h

two_small : (p : Option (Value × Value)) → IfSome p (TwoAtMost MAX_INSTANCE_NUMBER) → ExampleAtMost MAX_INSTANCE_NUMBER (option_map pure_between p)
two_small None h = tt
two_small (Some p) h = h

pub constant_settles : (c : PureCarrier) (v : PureValue) (i : Value) (w : Option Value) (s : Value) (p q : Option (Value × Value)) → IsCarrier c → In c v
    → pure_value i ≡ v → option_map pure_value w ≡ some_worse c v → pure_value s ≡ v → option_map pure_two p ≡ two_apart c → option_map pure_two q ≡ two_apart c
    → IsSettledBy c (constant v) (constant_profile c v) (pure_examples (examples_of_constant i w s p q))
constant_settles c v i w s p q is h ei ew es ep eq Total = constant_settled c v is h Total
constant_settles c v i w s p q is h ei ew es ep eq Dead =
    subst (λ x. Settles c (constant v) Dead false (Some (at x))) (sym ei) (constant_settled c v is h Dead)
constant_settles c v i w s p q is h ei ew es ep eq Monotone =
    subst (Settles c (constant v) Monotone (not (has_worse c v))) (sym (one_example w (not (has_worse c v)) (worse_than c v) ew)) (constant_settled c v is h Monotone)
constant_settles c v i w s p q is h ei ew es ep eq Strict =
    subst (λ x. Settles c (constant v) Strict false (Some (at x))) (sym es) (constant_settled c v is h Strict)
constant_settles c v i w s p q is h ei ew es ep eq Isotone = constant_settled c v is h Isotone
constant_settles c v i w s p q is h ei ew es ep eq Cancellative =
    subst (Settles c (constant v) Cancellative (is_flat c)) (sym (two_example p (is_flat c) (best c) (worse_than c (best c)) ep)) (constant_settled c v is h Cancellative)
constant_settles c v i w s p q is h ei ew es ep eq Condensed = constant_settled c v is h Condensed
constant_settles c v i w s p q is h ei ew es ep eq Narrow =
    subst (Settles c (constant v) Narrow (is_flat c)) (sym (two_example q (is_flat c) (best c) (worse_than c (best c)) eq)) (constant_settled c v is h Narrow)

pub constant_small : (i : Value) (w : Option Value) (s : Value) (p q : Option (Value × Value))
    → AtMost MAX_LABEL_NUMBER (pure_value i) → IfSome w (λ w. AtMost MAX_INSTANCE_NUMBER (pure_value w)) → AtMost MAX_LABEL_NUMBER (pure_value s)
    → IfSome p (TwoAtMost MAX_INSTANCE_NUMBER) → IfSome q (TwoAtMost MAX_INSTANCE_NUMBER)
    → ExamplesAtMost MAX_INSTANCE_NUMBER (pure_examples (examples_of_constant i w s p q))
constant_small i w s p q hi hw hs hp hq Total = tt
constant_small i w s p q hi hw hs hp hq Dead = value_fits (pure_value i) hi
constant_small i w s p q hi hw hs hp hq Monotone = one_small w hw
constant_small i w s p q hi hw hs hp hq Strict = value_fits (pure_value s) hs
constant_small i w s p q hi hw hs hp hq Isotone = tt
constant_small i w s p q hi hw hs hp hq Cancellative = two_small p hp
constant_small i w s p q hi hw hs hp hq Condensed = tt
constant_small i w s p q hi hw hs hp hq Narrow = two_small q hq

pub kept_settles : (c : PureCarrier) (i s : Value) (p q : Option (Value × Value)) → IsCarrier c
    → pure_value i ≡ best c → pure_value s ≡ best c → option_map pure_two p ≡ two_apart c → option_map pure_two q ≡ two_apart c
    → IsSettledBy c kept (kept_profile c) (pure_examples (examples_of_kept i s p q))
kept_settles c i s p q is ei es ep eq Total = kept_settled c is Total
kept_settles c i s p q is ei es ep eq Dead = subst (λ x. Settles c kept Dead false (Some (at x))) (sym ei) (kept_settled c is Dead)
kept_settles c i s p q is ei es ep eq Monotone = kept_settled c is Monotone
kept_settles c i s p q is ei es ep eq Strict = subst (λ x. Settles c kept Strict false (Some (at x))) (sym es) (kept_settled c is Strict)
kept_settles c i s p q is ei es ep eq Isotone = kept_settled c is Isotone
kept_settles c i s p q is ei es ep eq Cancellative = kept_settled c is Cancellative
kept_settles c i s p q is ei es ep eq Condensed =
    subst (Settles c kept Condensed (is_flat c)) (sym (two_example p (is_flat c) (best c) (worse_than c (best c)) ep)) (kept_settled c is Condensed)
kept_settles c i s p q is ei es ep eq Narrow =
    subst (Settles c kept Narrow (is_flat c)) (sym (two_example q (is_flat c) (best c) (worse_than c (best c)) eq)) (kept_settled c is Narrow)

pub kept_small : (i s : Value) (p q : Option (Value × Value)) → AtMost MAX_LABEL_NUMBER (pure_value i) → AtMost MAX_LABEL_NUMBER (pure_value s)
    → IfSome p (TwoAtMost MAX_INSTANCE_NUMBER) → IfSome q (TwoAtMost MAX_INSTANCE_NUMBER)
    → ExamplesAtMost MAX_INSTANCE_NUMBER (pure_examples (examples_of_kept i s p q))
kept_small i s p q hi hs hp hq Total = tt
kept_small i s p q hi hs hp hq Dead = value_fits (pure_value i) hi
kept_small i s p q hi hs hp hq Monotone = tt
kept_small i s p q hi hs hp hq Strict = value_fits (pure_value s) hs
kept_small i s p q hi hs hp hq Isotone = tt
kept_small i s p q hi hs hp hq Cancellative = tt
kept_small i s p q hi hs hp hq Condensed = two_small p hp
kept_small i s p q hi hs hp hq Narrow = two_small q hq
