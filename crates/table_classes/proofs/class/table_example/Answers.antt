use Rattle.std.proofs.Common.{option_map}
use Rattle.alg_model.specs.Views.{expression_of, pure_label}
use Rattle.alg_classes.specs.Classes.{pure_example}
use Rattle.table_classes.proofs.Answers.{row_answered}
use Rattle.table_classes.proofs.class.table_example.Goals as goal

pub returns-clause-answer : goal.returns-clause-answer
returns-clause-answer c = row_answered (expression_of c.args.tree.now) (pure_label c.args.label.now) c.of.result c.args.fact
    (option_map pure_example c.example.result) c.of.ensures c.example.ensures.answer
