use Rattle.alg_model.specs.FormLaws.{labels_kept}
use Rattle.alg_model.specs.Views.{expression_of, pure_label}
use Rattle.alg_model.proofs.membership.+is_label.Goals as goal

pub is_label-returns : goal.is_label-returns
is_label-returns t c =
    let kept = labels_kept (expression_of c.args.tree.now) (pure_label c.args.label.now) in
    let has = rw c.label_form.ensures.labels at c.is_label_of.ensures in
    (λ h. kept.0 (has.0 h), λ h. has.1 (kept.1 h))
