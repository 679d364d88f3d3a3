use Rattle.std.proofs.Common.{sym, ap, ◌∙◌, subst, option_map}
use Rattle.alg_model.specs.declared.alg.TheConstants.{MAX_INSTANCE_NUMBER}
use Rattle.alg_classes.specs.Classes.{ExampleAtMost, pure_at}
use Rattle.table_classes.specs.Found.{IsAnswerOf}
use Rattle.table_classes.specs.Rows.{value_fact}
use Rattle.table_classes.proofs.Answers.{value_bound}
use Rattle.table_classes.proofs.row.Row.value_example.Goals as goal

pub returns-clause-answer : goal.returns-clause-answer
returns-clause-answer c =
    subst (IsAnswerOf c.args.self.now (value_fact c.args.fact)) (sym (c.at.ensures ∙ ap (option_map pure_at) c.value_at.ensures)) c.find_value.ensures

pub returns-clause-bound : goal.returns-clause-bound
returns-clause-bound c =
    subst (ExampleAtMost MAX_INSTANCE_NUMBER) (sym (c.at.ensures ∙ ap (option_map pure_at) c.value_at.ensures)) (value_bound MAX_INSTANCE_NUMBER c.find_value.result)
