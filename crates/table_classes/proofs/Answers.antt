-- What answers to each fact make of a profile and of a class.
use Rattle.std.proofs.Common.{◌≡◌, sym, subst, ℕ, Option, Some, None}
use Rattle.std.specs.Option.{is_none}
use Rattle.alg_model.specs.declared.alg.TheConstants.{MAX_INSTANCE_NUMBER}
use Rattle.alg_model.specs.declared.tree.Label.{Label}
use Rattle.alg_model.specs.Expressions.{Expression, PureAlg, PureCarrier, PureLabel}
use Rattle.alg_model.specs.Views.{pure_label}
use Rattle.alg_model.specs.Carriers.{carrier_of}
use Rattle.alg_model.specs.Application.{IsLabel, App}
use Rattle.alg_model.specs.Bounds.{greatest_number}
use Rattle.alg_classes.specs.declared.fact.Fact.{Fact}
use Rattle.alg_classes.specs.declared.fact.Fact.TheVariants.{Total, Dead, Monotone, Strict, Isotone, Cancellative, Condensed, Narrow}
use Rattle.alg_classes.specs.Facts.{Action, PureExample}
use Rattle.alg_classes.specs.Profiles.{bit, ProfileOf}
use Rattle.alg_classes.specs.Classes.{pure_examples, Settles, IsSettledBy, ExampleAtMost, ExamplesAtMost, ClassOf}
use Rattle.alg_classes.specs.ClassLaws.{on_all, settled_profile}
use Rattle.table_classes.specs.declared.found.Found.{Found}
use Rattle.table_classes.specs.Rows.{IsTable, PureRow, IsRowOf, row_carrier}
use Rattle.table_classes.specs.RowLaws.{row_bound}
use Rattle.table_classes.specs.Found.{value_example, pair_example, found_examples, found_profile, found_class, IsAnswer, IsAnswerOf, AreAnswers, AreAnswersOf}

pub all_answered : (row : PureRow) (x : Found) → IsAnswerOf row Total (value_example x.outside) → IsAnswerOf row Dead (value_example x.inside)
    → IsAnswerOf row Monotone (value_example x.not_mono) → IsAnswerOf row Strict (value_example x.not_strict)
    → IsAnswerOf row Isotone (pair_example x.not_iso) → IsAnswerOf row Cancellative (pair_example x.not_canc)
    → IsAnswerOf row Condensed (pair_example x.not_cond) → IsAnswerOf row Narrow (pair_example x.not_narrow) → AreAnswersOf row x
all_answered row x = on_all (λ k. IsAnswerOf row k (pure_examples (found_examples x) k))

value_settled : (c : PureCarrier) (f : Action) (k : Fact) (o : Option ℕ) → IsAnswer c f k (value_example o) → Settles c f k (is_none o) (value_example o)
value_settled c f k None a = a
value_settled c f k (Some u) a = a

pair_settled : (c : PureCarrier) (f : Action) (k : Fact) (o : Option (ℕ × ℕ)) → IsAnswer c f k (pair_example o) → Settles c f k (is_none o) (pair_example o)
pair_settled c f k None a = a
pair_settled c f k (Some p) a = a

all_settled : (c : PureCarrier) (f : Action) (x : Found) → AreAnswers c f (pure_examples (found_examples x))
    → IsSettledBy c f (found_profile x) (pure_examples (found_examples x))
all_settled c f x a = on_all (λ k. Settles c f k (bit (found_profile x) k) (pure_examples (found_examples x) k))
    (value_settled c f Total x.outside (a Total))
    (value_settled c f Dead x.inside (a Dead))
    (value_settled c f Monotone x.not_mono (a Monotone))
    (value_settled c f Strict x.not_strict (a Strict))
    (pair_settled c f Isotone x.not_iso (a Isotone))
    (pair_settled c f Cancellative x.not_canc (a Cancellative))
    (pair_settled c f Condensed x.not_cond (a Condensed))
    (pair_settled c f Narrow x.not_narrow (a Narrow))

-- the facts of a row are those of its label
pub row_answered : (a : Expression) (l : PureLabel) (row : PureRow) (k : Fact) (o : Option PureExample) → IsRowOf a l row → IsAnswerOf row k o
    → IsAnswer (carrier_of a) (App a l) k o
row_answered a l row k o is answer =
    subst (λ c. IsAnswer c (App a l) k o) (sym is.carrier) (subst (λ f. IsAnswer (row_carrier row) f k o) (sym is.action) answer)

label_answered : (a : Expression) (l : PureLabel) (row : PureRow) (x : Found) → IsRowOf a l row → AreAnswersOf row x
    → AreAnswers (carrier_of a) (App a l) (pure_examples (found_examples x))
label_answered a l row x is answers k = row_answered a l row k (pure_examples (found_examples x) k) is (answers k)

label_settled : (a : Expression) (l : PureLabel) (row : PureRow) (x : Found) → IsRowOf a l row → AreAnswersOf row x
    → IsSettledBy (carrier_of a) (App a l) (found_profile x) (pure_examples (found_examples x))
label_settled a l row x is answers = all_settled (carrier_of a) (App a l) x (label_answered a l row x is answers)

pub profile_of_row : (a : Expression) (l : PureLabel) (row : PureRow) (x : Found) → IsRowOf a l row → AreAnswersOf row x
    → ProfileOf a l (found_profile x)
profile_of_row a l row x is answers =
    settled_profile (carrier_of a) (App a l) (found_profile x) (pure_examples (found_examples x)) (label_settled a l row x is answers)

-- the place of a value is no number of a text
pub value_bound : (n : ℕ) (o : Option ℕ) → ExampleAtMost n (value_example o)
value_bound n None = tt
value_bound n (Some u) = tt

pub pair_bound : (n : ℕ) (o : Option (ℕ × ℕ)) → ExampleAtMost n (pair_example o)
pair_bound n None = tt
pair_bound n (Some p) = (tt, tt)

all_bound : (n : ℕ) (x : Found) → ExamplesAtMost n (pure_examples (found_examples x))
all_bound n x = on_all (λ k. ExampleAtMost n (pure_examples (found_examples x) k))
    (value_bound n x.outside) (value_bound n x.inside) (value_bound n x.not_mono) (value_bound n x.not_strict)
    (pair_bound n x.not_iso) (pair_bound n x.not_canc) (pair_bound n x.not_cond) (pair_bound n x.not_narrow)

class_of_label : (a : PureAlg) (label : Label) (row : PureRow) (x : Found) → IsTable a.expression → IsLabel a.expression (pure_label label)
    → IsRowOf a.expression (pure_label label) row → AreAnswersOf row x → ClassOf a (found_class label x)
class_of_label a label row x t i is answers = record {
  label = i;
  label_bound = row_bound a.expression (pure_label label) (greatest_number a.edition) t i;
  settled = label_settled a.expression (pure_label label) row x is answers;
  bound = all_bound MAX_INSTANCE_NUMBER x;
}

-- the same of an equal label
pub class_of_row : (a : PureAlg) (l : PureLabel) (label : Label) (row : PureRow) (x : Found) → IsTable a.expression → IsLabel a.expression l
    → IsRowOf a.expression l row → AreAnswersOf row x → pure_label label ≡ l → ClassOf a (found_class label x)
class_of_row a l label row x t i is answers e = class_of_label a label row x t
    (subst (λ l. IsLabel a.expression l) (sym e) i) (subst (λ l. IsRowOf a.expression l row) (sym e) is) answers
