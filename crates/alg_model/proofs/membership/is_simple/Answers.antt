use Rattle.std.proofs.Common.{◌∙◌, arith}
use Rattle.alg_model.proofs.Symbols.{few_when_distinct}
use Rattle.alg_model.proofs.membership.is_simple.Goals as goal
use Rattle.alg_model.proofs.membership.is_simple.Goals.{then-ns-bound, else-ns-bound}

pub returns-else-are_below : goal.returns-else-are_below
returns-else-are_below c =
    elim c.if-ns-bound.branch [
      | then-ns-bound w ↦ (λ h. absurd (cc), λ p. w.value-is ∙ w.are_below.ensures.1 p.0)
      | else-ns-bound w ↦ (λ h. absurd (cc), λ p. let few = few_when_distinct c.args.bound c.args.ns.now p.0 p.1 in absurd (omega arith))
    ]
