-- Laws of actions on parts.
use Rattle.std.proofs.Common.{◌≡◌, sym, subst, Option, Result, IfOk}
use Rattle.std.specs.Prelude.{option_map}
use Rattle.alg_model.specs.Application.{App, IsLabel}
use Rattle.alg_model.specs.Carriers.{carrier_of}
use Rattle.alg_model.specs.Expressions.{Expression, right, PureLabel, keep}
use Rattle.alg_model.specs.Views.{expression_of, pure_label, pure_value}
use Rattle.alg_model.specs.declared.edition.Edition.{Edition}
use Rattle.alg_classes.specs.ClassLaws.{images_kept}
use Rattle.alg_classes.specs.Constants.{kept, constant_keeps, kept_keeps, denied_keeps}
use Rattle.alg_classes.specs.Classes.{pure_example}
use Rattle.alg_classes.specs.FactLaws.{Keeps}
use Rattle.alg_classes.specs.declared.example.Example.{Example}
use Rattle.alg_classes.specs.declared.fact.Fact.{Fact}
use Rattle.alg_classes.specs.Facts.{PureExample}
use Rattle.property_infer.specs.declared.action.Action.{Action}
use Rattle.property_infer.specs.declared.action.Action.TheVariants.{OfLabel, Constant, Keep, Deny}
use Rattle.property_infer.specs.Answers.{Answers}
use Rattle.property_infer.specs.Asked.{carrier_under, action_of, IsAction}

-- what an action makes of a value of the part is one
pub action_keeps : (e : Edition) (x : Action) → IsAction e x → Keeps (carrier_under x) (action_of x)
action_keeps e (OfLabel part label) is = images_kept (expression_of part.now) (pure_label label.now) is.alg.formed is.of_part.0
action_keeps e (Constant part value) is = constant_keeps (carrier_of (expression_of part.now)) (pure_value value.now) is.of_part.0
action_keeps e (Keep part) is = kept_keeps (carrier_of (expression_of part.now))
action_keeps e (Deny part) is = denied_keeps (carrier_of (expression_of part.now))

-- the one label of a right product keeps every value
pub right_answers : (a : Expression) (l : PureLabel) (k : Fact) (o : Option PureExample) → IsLabel (right a) l → Answers (carrier_of a) kept k o
    → Answers (carrier_of (right a)) (App (right a) l) k o
right_answers a keep k o is h = h
right_answers a _ k o is h = absurd is

-- an example of a label, of which the operator and the form are known
abbrev ForLabel : {E : Type 0} → Result (Option Example) E → Fact → Expression → PureLabel → Type 0
ForLabel r k a l = IfOk r (λ o. Answers (carrier_of a) (App a l) k (option_map pure_example o))

pub label_answers : {E : Type 0} (r : Result (Option Example) E) (k : Fact) (a b : Expression) (l m : PureLabel) → a ≡ b → l ≡ m
    → ForLabel r k b m → ForLabel r k a l
label_answers r k a b l m operator form h = subst (λ c. ForLabel r k c l) (sym operator) (subst (ForLabel r k b) (sym form) h)
