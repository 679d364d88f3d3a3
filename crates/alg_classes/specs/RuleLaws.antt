-- How a rule settles the facts of a composed label, for the proofs of rules: it tells when a fact holds, it has an
-- example where it tells that it doesn't, and its examples refute.
use Rattle.std.proofs.Common.{◌≡◌, refl, sym, subst, Bool, true, false, Option, Some, None}
use Rattle.std.specs.Option.{option_or}
use Rattle.alg_model.specs.Numbers.{max_instance_number}
use Rattle.alg_model.specs.Expressions.{PureAlg, PureCarrier, PureValue, PureLabel}
use Rattle.alg_model.specs.Views.{pure_label}
use Rattle.alg_model.specs.Carriers.{carrier_of, In}
use Rattle.alg_model.specs.Application.{IsLabel, App}
use Rattle.alg_model.specs.Bounds.{LabelAtMost, greatest_number}
use Rattle.alg_classes.specs.declared.profile.Profile.{Profile}
use Rattle.alg_classes.specs.declared.class.Class.{Class}
use Rattle.alg_classes.specs.declared.fact.Fact.{Fact}
use Rattle.alg_classes.specs.Facts.{Action, Holds, PureExample, at, between, Refutes}
use Rattle.alg_classes.specs.Profiles.{bit}
use Rattle.alg_classes.specs.Classes.{PureExamples, pure_examples, Settles, IsSettledBy, ExampleAtMost, ExamplesAtMost, ClassOf}
use Rattle.alg_classes.specs.FactLaws.{Keeps, example_refutes}

-- what is known of a part of a composed label
pub record IsKnown (c : PureCarrier) (f : Action) (p : Profile) (x : PureExamples) : Type 0 where
  pub kept : Keeps c f
  pub inhabited : (v : PureValue) × In c v
  pub settled : IsSettledBy c f p x

-- there is an example
abbrev pub IsThere : Option PureExample → Type 0
IsThere o = (e : PureExample) × (o ≡ Some e)

-- it holds of the example, if there is one
abbrev pub OnExample : (PureExample → Type 0) → Option PureExample → Type 0
OnExample P None = Unit {0}
OnExample P (Some e) = P e

-- the example is one value of the carrier
abbrev pub IsValue : PureCarrier → PureExample → Type 0
IsValue c (at v) = In c v
IsValue c (between u v) = ⊥

pub settle : (c : PureCarrier) (f : Action) (k : Fact) (b : Bool) (o : Option PureExample) → (b ≡ true → Holds c f k) → (b ≡ false → IsThere o) → OnExample (Refutes c f k) o → Settles c f k b o
settle c f k true None holds there r = holds refl
settle c f k true (Some e) holds there r = absurd (example_refutes c f k e r (holds refl))
settle c f k false None holds there r = let t = (there refl).1 in absurd (cc)
settle c f k false (Some e) holds there r = r

reported_by : (c : PureCarrier) (f : Action) (k : Fact) (b : Bool) (o : Option PureExample) → Settles c f k b o → b ≡ true → Holds c f k
reported_by c f k true None s e = s
reported_by c f k true (Some x) s e = absurd s
reported_by c f k false None s e = absurd s
reported_by c f k false (Some x) s e = absurd (cc)

there_by : (c : PureCarrier) (f : Action) (k : Fact) (b : Bool) (o : Option PureExample) → Settles c f k b o → b ≡ false → IsThere o
there_by c f k true None s e = absurd (cc)
there_by c f k true (Some x) s e = absurd s
there_by c f k false None s e = absurd s
there_by c f k false (Some x) s e = (x, refl)

shown_by : (c : PureCarrier) (f : Action) (k : Fact) (b : Bool) (o : Option PureExample) → Settles c f k b o → OnExample (Refutes c f k) o
shown_by c f k true None s = tt
shown_by c f k true (Some x) s = absurd s
shown_by c f k false None s = absurd s
shown_by c f k false (Some x) s = s

-- a fact that the profile tells holds
pub reported : {c : PureCarrier} {f : Action} {p : Profile} {x : PureExamples} (a : IsKnown c f p x) (k : Fact) → bit p k ≡ true → Holds c f k
reported {c} {f} {p} {x} a k = reported_by c f k (bit p k) (x k) (a.settled k)

-- one that it denies has an example
pub there : {c : PureCarrier} {f : Action} {p : Profile} {x : PureExamples} (a : IsKnown c f p x) (k : Fact) → bit p k ≡ false → IsThere (x k)
there {c} {f} {p} {x} a k = there_by c f k (bit p k) (x k) (a.settled k)

-- and the examples refute
pub shown : {c : PureCarrier} {f : Action} {p : Profile} {x : PureExamples} (a : IsKnown c f p x) (k : Fact) → OnExample (Refutes c f k) (x k)
shown {c} {f} {p} {x} a k = shown_by c f k (bit p k) (x k) (a.settled k)

-- the first of two examples, or else the second
pub on_or : (P : PureExample → Type 0) (x y : Option PureExample) → OnExample P x → OnExample P y → OnExample P (option_or x y)
on_or P None y h i = i
on_or P (Some e) y h i = h

pub there_left : (x y : Option PureExample) → IsThere x → IsThere (option_or x y)
there_left None y h = let e = h.1 in absurd (cc)
there_left (Some e) y h = (e, refl)

pub there_right : (x y : Option PureExample) → IsThere y → IsThere (option_or x y)
there_right None y h = h
there_right (Some e) y h = (e, refl)

-- A class whose label, profile and examples are known is the algebra's where these are.
pub class_from : (a : PureAlg) (class : Class) (l : PureLabel) (p : Profile) (x : PureExamples)
    → pure_label class.label ≡ l → class.profile ≡ p → ((k : Fact) → pure_examples class.examples k ≡ x k)
    → IsLabel a.expression l → LabelAtMost (greatest_number a.edition) l → IsSettledBy (carrier_of a.expression) (App a.expression l) p x
    → ExamplesAtMost max_instance_number x → ClassOf a class
class_from a class l p x label_is profile_is examples_are label label_bound settled bound = record {
  label = subst (IsLabel a.expression) (sym label_is) label;
  label_bound = subst (LabelAtMost (greatest_number a.edition)) (sym label_is) label_bound;
  settled = λ k.
      subst (λ o. Settles (carrier_of a.expression) (App a.expression (pure_label class.label)) k (bit class.profile k) o) (sym (examples_are k))
      (subst (λ q. Settles (carrier_of a.expression) (App a.expression (pure_label class.label)) k (bit q k) (x k)) (sym profile_is)
      (subst (λ m. Settles (carrier_of a.expression) (App a.expression m) k (bit p k) (x k)) (sym label_is) (settled k)));
  bound = λ k. subst (ExampleAtMost max_instance_number) (sym (examples_are k)) (bound k);
}
