use Rattle.std.proofs.Common.{rules}
use Rattle.std.proofs.lemmas.Result.{IfOk-weaker}
use Rattle.alg_model.proofs.MadeImages.{made_in, made_at_most}
use Rattle.alg_model.proofs.application.apply.Goals as goal

pub returns-clause-value : goal.returns-clause-value
returns-clause-value c =
    let alg = c.args.alg.now.expression in
    IfOk-weaker c.image.result _ _ (λ image e. made_in alg c.args.label.now c.args.value.now image
    c.tree.ensures.formed.formed c.requires.label c.requires.value e) (search rules)

pub returns-clause-bound : goal.returns-clause-bound
returns-clause-bound c n small =
    let alg = c.args.alg.now.expression in
    IfOk-weaker c.image.result _ _ (λ image e. made_at_most alg c.args.label.now c.args.value.now image n
    c.requires.label c.requires.small_label small e) (search rules)
