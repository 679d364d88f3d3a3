use Rattle.alg_classes.specs.Classes.{alg_in}
use Rattle.alg_model.specs.Expressions.{row_label}
use Rattle.alg_model.specs.Views.{expression_of}
use Rattle.alg_model.specs.declared.edition.Edition.{Edition}
use Rattle.profile_labels.specs.Places.{HasBefore}
use Rattle.profile_labels.proofs.leaves.labels_of_table.Given as goal

abbrev pub invariant-loop-place : goal.invariant-loop-place
invariant-loop-place l = (e : Edition) → HasBefore (alg_in (expression_of l.tree) e) row_label l.place l.list
