use Rattle.alg_classes.specs.Classes.{alg_in}
use Rattle.alg_model.specs.Formation.{IsAlg}
use Rattle.alg_model.specs.Views.{expression_of}
use Rattle.alg_model.specs.declared.edition.Edition.{Edition}
use Rattle.base_classes.specs.Lists.{candidate}
use Rattle.profile_labels.specs.Places.{HasBefore}
use Rattle.profile_labels.proofs.leaves.labels_of_base.Given as goal

abbrev pub invariant-loop-place : goal.invariant-loop-place
invariant-loop-place l = (e : Edition) → IsAlg (alg_in (expression_of l.tree) e)
    → HasBefore (alg_in (expression_of l.tree) e) (candidate (expression_of l.tree)) l.place l.list
