-- Laws of settled facts, for the proofs of the crates above: what examples settle is the label's profile, and
-- a rule that makes examples from those of the parts makes the profile from theirs.
use Rattle.std.proofs.Common.{◌≡◌, refl, Bool, true, false, Option, Some, None}
use Rattle.alg_model.specs.Expressions.{Expression, PureAlg, PureCarrier, PureLabel}
use Rattle.alg_model.specs.Views.{pure_label}
use Rattle.alg_model.specs.Carriers.{carrier_of}
use Rattle.alg_model.specs.Application.{IsLabel, App}
use Rattle.alg_model.specs.Formation.{IsFormed}
use Rattle.alg_model.specs.Laws.{images_in}
use Rattle.alg_classes.specs.declared.profile.Profile.{Profile}
use Rattle.alg_classes.specs.declared.fact.Fact.{Fact}
use Rattle.alg_classes.specs.declared.fact.Fact.TheVariants.{Total, Dead, Monotone, Strict, Isotone, Cancellative, Condensed, Narrow}
use Rattle.alg_classes.specs.Facts.{Action, Holds, PureExample}
use Rattle.alg_classes.specs.declared.class.Class.{Class}
use Rattle.alg_classes.specs.Profiles.{bit, IsProfile, ProfileOf}
use Rattle.alg_classes.specs.Classes.{PureExamples, pure_examples, Settles, IsSettledBy, ClassOf}
use Rattle.alg_classes.specs.FactLaws.{Keeps, example_refutes, holds_unless}

settled_bit : (c : PureCarrier) (f : Action) (k : Fact) (b : Bool) (o : Option PureExample) → Settles c f k b o → (b ≡ true → Holds c f k) × (Holds c f k → b ≡ true)
settled_bit c f k true None s = (λ e. s, λ h. refl)
settled_bit c f k true (Some e) s = absurd s
settled_bit c f k false None s = absurd s
settled_bit c f k false (Some e) s = (λ g. absurd (cc), λ h. absurd (example_refutes c f k e s h))

-- a profile by which each fact is settled is the profile
pub settled_profile : (c : PureCarrier) (f : Action) (p : Profile) (x : PureExamples) → IsSettledBy c f p x → IsProfile c f p
settled_profile c f p x s k = settled_bit c f k (bit p k) (x k) (s k)

-- a class has its label's profile
pub class_profile : (a : PureAlg) (class : Class) → ClassOf a class → ProfileOf a.expression (pure_label class.label) class.profile
class_profile a class is =
    settled_profile (carrier_of a.expression) (App a.expression (pure_label class.label)) class.profile (pure_examples class.examples) is.settled

-- images under a label of an algebra are the algebra's values
pub images_kept : (a : Expression) (l : PureLabel) → IsFormed a → IsLabel a l → Keeps (carrier_of a) (App a l)
images_kept a l formed label v w i e = images_in a l v w formed label i e

-- a fact that the profile tells can be settled
one_settled : (c : PureCarrier) (f : Action) → Keeps c f → (k : Fact) (b : Bool) → (b ≡ true → Holds c f k) × (Holds c f k → b ≡ true)
    → ¬ ¬ ((o : Option PureExample) × Settles c f k b o)
one_settled c f kept k true t n = n (None, t.0 refl)
one_settled c f kept k false t n = let e = t.1 (holds_unless c f kept k (λ e r. n (Some e, r))) in cc

-- an example for each fact
abbrev examples_by : Option PureExample → Option PureExample → Option PureExample → Option PureExample → Option PureExample → Option PureExample → Option PureExample → Option PureExample → PureExamples
examples_by x1 x2 x3 x4 x5 x6 x7 x8 Total = x1
examples_by x1 x2 x3 x4 x5 x6 x7 x8 Dead = x2
examples_by x1 x2 x3 x4 x5 x6 x7 x8 Monotone = x3
examples_by x1 x2 x3 x4 x5 x6 x7 x8 Strict = x4
examples_by x1 x2 x3 x4 x5 x6 x7 x8 Isotone = x5
examples_by x1 x2 x3 x4 x5 x6 x7 x8 Cancellative = x6
examples_by x1 x2 x3 x4 x5 x6 x7 x8 Condensed = x7
examples_by x1 x2 x3 x4 x5 x6 x7 x8 Narrow = x8

-- what holds of each of the eight facts holds of all
pub on_all : (P : Fact → Type 0) → P Total → P Dead → P Monotone → P Strict → P Isotone → P Cancellative → P Condensed → P Narrow → (k : Fact) → P k
on_all P h1 h2 h3 h4 h5 h6 h7 h8 Total = h1
on_all P h1 h2 h3 h4 h5 h6 h7 h8 Dead = h2
on_all P h1 h2 h3 h4 h5 h6 h7 h8 Monotone = h3
on_all P h1 h2 h3 h4 h5 h6 h7 h8 Strict = h4
on_all P h1 h2 h3 h4 h5 h6 h7 h8 Isotone = h5
on_all P h1 h2 h3 h4 h5 h6 h7 h8 Cancellative = h6
on_all P h1 h2 h3 h4 h5 h6 h7 h8 Condensed = h7
on_all P h1 h2 h3 h4 h5 h6 h7 h8 Narrow = h8

-- there is nothing against examples that settle what a profile tells
pub some_settled : (c : PureCarrier) (f : Action) → Keeps c f → (p : Profile) → IsProfile c f p → ¬ ¬ ((x : PureExamples) × IsSettledBy c f p x)
some_settled c f kept p is n =
    let one : (k : Fact) → ¬ ¬ ((o : Option PureExample) × Settles c f k (bit p k) o) = λ k. one_settled c f kept k (bit p k) (is k) in
    one Total (λ x1. one Dead (λ x2. one Monotone (λ x3. one Strict (λ x4. one Isotone (λ x5. one Cancellative (λ x6. one Condensed (λ x7. one Narrow (λ x8.
    let x = examples_by x1.0 x2.0 x3.0 x4.0 x5.0 x6.0 x7.0 x8.0 in
    n (x, on_all (λ k. Settles c f k (bit p k) (x k)) x1.1 x2.1 x3.1 x4.1 x5.1 x6.1 x7.1 x8.1)))))))))

true_unless : (b : Bool) → ¬ ¬ (b ≡ true) → b ≡ true
true_unless true n = refl
true_unless false n = absurd (n (λ e. cc))

-- where there is nothing against such examples, the profile is the profile
pub profile_of_some : (c : PureCarrier) (f : Action) → Keeps c f → (p : Profile) → ¬ ¬ ((x : PureExamples) × IsSettledBy c f p x) → IsProfile c f p
profile_of_some c f kept p some k = (
  λ e. holds_unless c f kept k (λ x r. some (λ s. example_refutes c f k x r ((settled_profile c f p s.0 s.1 k).0 e))),
  λ h. true_unless (bit p k) (λ n. some (λ s. n ((settled_profile c f p s.0 s.1 k).1 h))),
)

-- a rule that settles what is composed from what settles its part gives the profile from the part's
pub composed_profile : (c d : PureCarrier) (f g : Action) → Keeps c f → Keeps d g → (p q : Profile)
    → ((x : PureExamples) → IsSettledBy c f p x → (y : PureExamples) × IsSettledBy d g q y)
    → IsProfile c f p → IsProfile d g q
composed_profile c d f g kept_f kept_g p q rule is =
    profile_of_some d g kept_g q (λ n. some_settled c f kept_f p is (λ s. n (rule s.0 s.1)))

-- the same of two parts
pub composed_profile_of_two : (b c d : PureCarrier) (e f g : Action) → Keeps b e → Keeps c f → Keeps d g → (p q r : Profile)
    → ((x y : PureExamples) → IsSettledBy b e p x → IsSettledBy c f q y → (z : PureExamples) × IsSettledBy d g r z)
    → IsProfile b e p → IsProfile c f q → IsProfile d g r
composed_profile_of_two b c d e f g kept_e kept_f kept_g p q r rule is_p is_q =
    profile_of_some d g kept_g r (λ n. some_settled b e kept_e p is_p (λ s. some_settled c f kept_f q is_q (λ t. n (rule s.0 t.0 s.1 t.1))))
