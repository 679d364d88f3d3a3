use Rattle.std.proofs.Common.{sym, ap, ◌∙◌, subst, option_map}
use Rattle.alg_model.specs.declared.alg.TheConstants.{MAX_INSTANCE_NUMBER}
use Rattle.alg_classes.specs.Classes.{ExampleAtMost, pure_between}
use Rattle.table_classes.specs.Found.{IsAnswerOf}
use Rattle.table_classes.specs.Rows.{pair_fact}
use Rattle.table_classes.proofs.Answers.{pair_bound}
use Rattle.table_classes.proofs.row.Row.pair_example.Goals as goal

pub returns-clause-answer : goal.returns-clause-answer
returns-clause-answer c =
    subst (IsAnswerOf c.args.self.now (pair_fact c.args.fact)) (sym (c.between.ensures ∙ ap (option_map pure_between) c.values_at.ensures)) c.find_pair.ensures

pub returns-clause-bound : goal.returns-clause-bound
returns-clause-bound c =
    subst (ExampleAtMost MAX_INSTANCE_NUMBER) (sym (c.between.ensures ∙ ap (option_map pure_between) c.values_at.ensures)) (pair_bound MAX_INSTANCE_NUMBER c.find_pair.result)
