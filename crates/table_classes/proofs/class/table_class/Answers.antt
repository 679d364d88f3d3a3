use Rattle.std.proofs.Common.{sym, subst}
use Rattle.alg_model.specs.Views.{pure_label}
use Rattle.alg_classes.specs.Classes.{ClassOf}
use Rattle.table_classes.proofs.Answers.{class_of_row}
use Rattle.table_classes.proofs.class.table_class.Goals as goal

pub returns-clause-class : goal.returns-clause-class
returns-clause-class c = subst (ClassOf c.args.alg.now) (sym c.class.ensures)
    (class_of_row c.args.alg.now (pure_label c.args.label.now) c.in_ok-copy.field-0 c.of.result c.of-found.result c.requires.table
    c.requires.label (rw c.tree.ensures.tree at c.of.ensures) c.of-found.ensures c.in_ok-copy.ensures)
