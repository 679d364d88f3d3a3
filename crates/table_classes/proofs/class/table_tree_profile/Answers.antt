use Rattle.std.proofs.Common.{sym, subst}
use Rattle.alg_model.specs.Views.{expression_of, pure_label}
use Rattle.alg_classes.specs.Profiles.{ProfileOf}
use Rattle.table_classes.proofs.Answers.{profile_of_row}
use Rattle.table_classes.proofs.class.table_tree_profile.Goals as goal

pub returns : goal.returns
returns c = subst (λ p. ProfileOf (expression_of c.args.tree.now) (pure_label c.args.label.now) p) (sym c.profile.ensures)
    (profile_of_row (expression_of c.args.tree.now) (pure_label c.args.label.now) c.of.result c.of-2.result c.of.ensures c.of-2.ensures)
