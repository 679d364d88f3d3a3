use Rattle.std.proofs.lemmas.Result.{IfOk-weaker}
use Rattle.alg_model.specs.Actions.{held}
use Rattle.alg_model.proofs.MadeImages.{made_in, made_at_most}
use Rattle.alg_model.proofs.placing.apply_into.Goals as goal

pub returns-clause-value : goal.returns-clause-value
returns-clause-value c =
    let alg = c.args.alg.now.expression in
    IfOk-weaker c.image_into.result _ _ (λ placed e. made_in alg c.args.label.now c.args.value.now (held placed _)
    c.tree.ensures.formed.formed c.requires.label c.requires.value e) (rw c.tree.ensures.tree at c.image_into.ensures)

pub returns-clause-bound : goal.returns-clause-bound
returns-clause-bound c n small =
    let alg = c.args.alg.now.expression in
    IfOk-weaker c.image_into.result _ _ (λ placed e. made_at_most alg c.args.label.now c.args.value.now (held placed _) n
    c.requires.label c.requires.small_label small e) (rw c.tree.ensures.tree at c.image_into.ensures)
