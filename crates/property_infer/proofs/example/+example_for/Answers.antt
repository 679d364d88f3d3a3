use Rattle.std.proofs.Common.{refl, ap}
use Rattle.std.specs.Prelude.{option_map}
use Rattle.alg_model.specs.Application.{App}
use Rattle.alg_model.specs.CarrierLaws.{carriers_are}
use Rattle.alg_model.specs.Carriers.{carrier_of}
use Rattle.alg_model.specs.PartLaws.{formed_left, formed_right}
use Rattle.alg_model.specs.Expressions.{left, right, const_label}
use Rattle.alg_model.specs.Views.{expression_of, pure_label, pure_value}
use Rattle.base_classes.specs.Profiles.{base_profile_of}
use Rattle.alg_classes.specs.Classes.{pure_example}
use Rattle.property_infer.proofs.ActionLaws.{label_answers, right_answers}
use Rattle.alg_classes.specs.Profiles.{bit}
use Rattle.property_infer.specs.SideAnswers.{settled_answers}
use Rattle.property_infer.proofs.Leaves.{answered, both_if_ok, constant_answers, kept_answers}
use Rattle.property_infer.proofs.example.+example_for.Goals as goal

pub example_for-returns-in-Constant : goal.example_for-returns-in-Constant
example_for-returns-in-Constant t c =
    let part = expression_of c.in-Constant.part.now in
    let action = rw c.in-Constant.is at c.requires.1 in
    rw c.in-Constant.is (both_if_ok c.constant_example.result _ _ _
    (λ o. constant_answers (carrier_of part) (pure_value c.in-Constant.value.now) c.args.fact (option_map pure_example o)
    (carriers_are part action.alg.formed) action.of_part.0)
    c.constant_example.ensures.made c.constant_example.ensures.small)

pub example_for-returns-in-Keep : goal.example_for-returns-in-Keep
example_for-returns-in-Keep t c =
    let part = expression_of c.in-Keep.part.now in
    let action = rw c.in-Keep.is at c.requires.1 in
    rw c.in-Keep.is (both_if_ok c.kept_example.result _ _ _
    (λ o. kept_answers (carrier_of part) c.args.fact (option_map pure_example o) (carriers_are part action.alg.formed))
    c.kept_example.ensures.made c.kept_example.ensures.small)

pub label_example-returns-in-Const : goal.label_example-returns-in-Const
label_example-returns-in-Const t c =
    let a = expression_of c.in-Left.a.now in
    let alg = rw c.in-Left.ensures.operator at c.requires.1.alg in
    let value = rw (c.in-Left.ensures.operator, c.in-Const.is) at c.requires.1.of_part in
    label_answers c.constant_example.result c.args.fact (expression_of c.args.part.now) (left a) (pure_label c.args.label.now)
    (const_label (pure_value c.in-Const.v)) c.in-Left.ensures.operator (ap pure_label c.in-Const.is) (both_if_ok c.constant_example.result _ _ _
    (λ o. constant_answers (carrier_of a) (pure_value c.in-Const.v) c.args.fact (option_map pure_example o)
    (carriers_are a (formed_left a alg.formed)) value.0)
    c.constant_example.ensures.made c.constant_example.ensures.small)

pub label_example-returns-in-Right : goal.label_example-returns-in-Right
label_example-returns-in-Right t c =
    let a = expression_of c.in-Right.a.now in
    let l = pure_label c.args.label.now in
    let alg = rw c.in-Right.ensures.operator at c.requires.1.alg in
    let is = rw c.in-Right.ensures.operator at c.requires.1.of_part in
    label_answers c.kept_example.result c.args.fact (expression_of c.args.part.now) (right a) l l c.in-Right.ensures.operator refl
    (both_if_ok c.kept_example.result _ _ _
    (λ o e s. right_answers a l c.args.fact (option_map pure_example o) is.0
    (kept_answers (carrier_of a) c.args.fact (option_map pure_example o) (carriers_are a (formed_right a alg.formed)) e s))
    c.kept_example.ensures.made c.kept_example.ensures.small)

pub label_example-returns-in-Table : goal.label_example-returns-in-Table
label_example-returns-in-Table t c =
    let part = expression_of c.args.part.now in
    let l = pure_label c.args.label.now in
    answered (carrier_of part) (App part l) c.args.fact (option_map pure_example c.table_example.result) c.table_example.ensures.answer c.table_example.ensures.bound

pub label_example-returns-in-Numbers : goal.label_example-returns-in-Numbers
label_example-returns-in-Numbers t c =
    let part = expression_of c.args.part.now in
    let l = pure_label c.args.label.now in
    both_if_ok c.base_example.result _ _ _
    (λ o. settled_answers (carrier_of part) (App part l) c.args.fact (bit (base_profile_of part l) c.args.fact) (option_map pure_example o))
    c.base_example.ensures.settled (c.base_example.ensures.bound c.requires.0 c.requires.1.alg.bound)
