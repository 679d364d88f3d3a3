use Rattle.std.proofs.Common.{◌∙◌, ap}
use Rattle.std.proofs.lemmas.Result.{IfOk-weaker}
use Rattle.alg_model.specs.Expressions.{Expression, PureAlg}
use Rattle.metacli.proofs.reading.copied.Goals as goal

pub returns : goal.returns
returns c =
    let alg = c.args.alg.now in
    let in_edition : Expression → PureAlg = λ e. record { expression = e; edition = alg.edition } in
    IfOk-weaker c.copy_part.result _ _ (λ _ e. e ∙ ap in_edition c.tree.ensures.tree) c.copy_part.ensures
