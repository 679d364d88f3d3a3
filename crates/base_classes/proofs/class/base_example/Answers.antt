use Rattle.std.proofs.Common.{option_map}
use Rattle.std.proofs.lemmas.Result.{IfOk-weaker}
use Rattle.alg_model.specs.Views.{expression_of, pure_label}
use Rattle.alg_classes.specs.Classes.{pure_example}
use Rattle.base_classes.proofs.Bounds.{example_settled, example_bounded}
use Rattle.base_classes.proofs.class.base_example.Goals as goal

pub returns-clause-settled : goal.returns-clause-settled
returns-clause-settled c =
    IfOk-weaker c.example.result _ _
    (λ x is. example_settled (expression_of c.args.tree.now) (pure_label c.args.label.now) c.rule.result c.args.fact (option_map pure_example x)
    c.requires.base c.requires.ranges c.requires.label c.rule.ensures is) c.example.ensures

pub returns-clause-bound : goal.returns-clause-bound
returns-clause-bound c = λ e small.
    IfOk-weaker c.example.result _ _
    (λ x. example_bounded e (expression_of c.args.tree.now) (pure_label c.args.label.now) c.rule.result c.args.fact (option_map pure_example x)
    c.requires.base small c.requires.label) c.example.ensures
