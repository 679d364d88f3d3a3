use Rattle.alg_model.specs.declared.edition.TheConstants.{MAX_LABEL_NUMBER}
use Rattle.alg_model.specs.Bounds.{greatest_number}
use Rattle.alg_model.specs.Laws.{label_at_most_more, greatest_is_bounded}
use Rattle.alg_model.specs.Views.{pure_label}
use Rattle.algebra_tests.proofs.algebras.image_text.Goals as goal

pub apply-image-requires-clause-small_label : goal.apply-image-requires-clause-small_label
apply-image-requires-clause-small_label c =
    label_at_most_more (greatest_number c.args.alg.now.edition) MAX_LABEL_NUMBER (pure_label c.in_ok-label.label)
    (greatest_is_bounded c.args.alg.now.edition) c.in_ok-label.ensures.bound
