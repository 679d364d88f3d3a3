-- What the examples of a constant action and of one that keeps every value are made of.
use Rattle.std.proofs.Common.{◌≡◌, ℕ, ◌≤◌, refl, ap, ◌∙◌, sym, subst, arith, ◌⊎◌, ⊎_elim, Bool, true, false, Option, Some, None, Result, Ok, Err, IfOk}
use Rattle.std.specs.Prelude.{option_map}
use Rattle.alg_model.specs.Bounds.{AtMost}
use Rattle.alg_model.specs.Laws.{at_most_more}
use Rattle.alg_model.specs.declared.alg.TheConstants.{MAX_INSTANCE_NUMBER}
use Rattle.alg_model.specs.declared.edition.TheConstants.{MAX_LABEL_NUMBER}
use Rattle.alg_model.specs.Expressions.{PureCarrier, PureValue}
use Rattle.alg_model.specs.declared.tree.Value.{Value}
use Rattle.alg_model.specs.Carriers.{In}
use Rattle.alg_model.specs.Formation.{IsCarrier}
use Rattle.alg_classes.specs.declared.profile.Profile.{Profile}
use Rattle.alg_classes.specs.Facts as facts
use Rattle.alg_classes.specs.Facts.{PureExample, between}
use Rattle.alg_classes.specs.Profiles.{bit}
use Rattle.alg_classes.specs.Classes.{pure_between, PureExamples, Settles, IsSettledBy, ExampleAtMost}
use Rattle.alg_classes.specs.Constants.{unless, two_apart, pure_two, apart, constant, kept, constant_profile, kept_profile, constant_examples, kept_examples, constant_settled, kept_settled}
use Rattle.alg_classes.specs.Flat.{is_flat, best, worse_than}
use Rattle.alg_classes.specs.declared.fact.Fact.{Fact}
use Rattle.alg_classes.specs.declared.fact.Fact.TheVariants.{Cancellative, Condensed, Narrow}
use Rattle.table_classes.specs.Found.{IsAnswer}
use Rattle.property_infer.specs.Answers.{Answers}
use Rattle.property_infer.specs.SideAnswers.{settled_answers}

between_unless : (b : Bool) (u v : PureValue) → option_map (λ (p : PureValue × PureValue). between p.0 p.1) (unless b (u, v)) ≡ unless b (between u v)
between_unless true u v = refl
between_unless false u v = refl

between_values : (o : Option (Value × Value)) → option_map pure_between o ≡ option_map (λ (p : PureValue × PureValue). between p.0 p.1) (option_map pure_two o)
between_values None = refl
between_values (Some p) = refl

-- two values, the first preferred, where there are such
pub apart_made : (c d : PureCarrier) (o : Option (Value × Value)) → option_map pure_two o ≡ two_apart c → c ≡ d
    → option_map pure_between o ≡ unless (is_flat d) (apart d)
apart_made c d o e same =
    between_values o ∙ (ap (option_map (λ (p : PureValue × PureValue). between p.0 p.1)) (e ∙ ap two_apart same) ∙ between_unless (is_flat d) (best d) (worse_than d (best d)))

-- of which facts they are the example
pub constant_apart : (c : PureCarrier) (v : PureValue) (k : Fact) → (k ≡ Cancellative) ⊎ (k ≡ Narrow) → constant_examples c v k ≡ unless (is_flat c) (apart c)
constant_apart c v k is = ⊎_elim (λ e. rw e refl) (λ e. rw e refl) is

pub kept_apart : (c : PureCarrier) (k : Fact) → (k ≡ Condensed) ⊎ (k ≡ Narrow) → kept_examples c k ≡ unless (is_flat c) (apart c)
kept_apart c k is = ⊎_elim (λ e. rw e refl) (λ e. rw e refl) is

-- Numbers of labels may stand in instances.
pub label_number_is_small : (v : PureValue) → AtMost MAX_LABEL_NUMBER v → AtMost MAX_INSTANCE_NUMBER v
label_number_is_small v h = at_most_more MAX_LABEL_NUMBER MAX_INSTANCE_NUMBER v (omega arith) h

pub value_is_small : (n : ℕ) (v : PureValue) → n ≤ MAX_LABEL_NUMBER → AtMost n v → AtMost MAX_INSTANCE_NUMBER v
value_is_small n v bound h = label_number_is_small v (at_most_more n MAX_LABEL_NUMBER v bound h)

-- two things that hold of a result make a third
pub both_if_ok : {A E : Type 0} (r : Result A E) (P Q R : A → Type 0) → ((x : A) → P x → Q x → R x) → IfOk r P → IfOk r Q → IfOk r R
both_if_ok (Ok x) P Q R f h i = f x h i
both_if_ok (Err e) P Q R f h i = tt

-- The one of settled facts that is asked for is answered.
pub one_answers : (c : PureCarrier) (f : facts.Action) (p : Profile) (x : PureExamples) (k : Fact) (o : Option PureExample) → IsSettledBy c f p x
    → o ≡ x k → ExampleAtMost MAX_INSTANCE_NUMBER o → Answers c f k o
one_answers c f p x k o settled e small = settled_answers c f k (bit p k) o (subst (Settles c f k (bit p k)) (sym e) (settled k)) small

pub constant_answers : (c : PureCarrier) (v : PureValue) (k : Fact) (o : Option PureExample) → IsCarrier c → In c v → o ≡ constant_examples c v k
    → ExampleAtMost MAX_INSTANCE_NUMBER o → Answers c (constant v) k o
constant_answers c v k o is i = one_answers c (constant v) (constant_profile c v) (constant_examples c v) k o (constant_settled c v is i)

pub kept_answers : (c : PureCarrier) (k : Fact) (o : Option PureExample) → IsCarrier c → o ≡ kept_examples c k → ExampleAtMost MAX_INSTANCE_NUMBER o
    → Answers c kept k o
kept_answers c k o is = one_answers c kept (kept_profile c) (kept_examples c) k o (kept_settled c is)

-- what a search over the values of a table finds is an answer
pub answered : (c : PureCarrier) (f : facts.Action) (k : Fact) (o : Option PureExample) → IsAnswer c f k o → ExampleAtMost MAX_INSTANCE_NUMBER o
    → Answers c f k o
answered c f k None a b = a
answered c f k (Some e) a b = (a, b)
