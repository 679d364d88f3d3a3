use Rattle.std.proofs.Common.{length, sym, ◌∙◌, ap}
use Rattle.meta_base.specs.NodePaths.{numbers}
use Rattle.alg_model.specs.Views.{pure_value}
use Rattle.stable_check.specs.Checks.{carried}
use Rattle.stable_check.specs.WalkWeights.{empty_weight, origin_small, others_no_weight, weight_at_last, no_walk_no_weight, if_ok, none_of, not_empty}
use Rattle.stable_check.proofs.weight.weight_of.Goals as goal
use Rattle.stable_check.proofs.weight.weight_of.Goals.{then-is_empty-via-then-is_empty, then-is_empty-via-else-is_empty+then-not-are_nodes_of}

pub carry-requires-clause-value : goal.carry-requires-clause-value
carry-requires-clause-value c = rw c.origin_value.ensures (origin_small c.args.net.now c.node_count-count.ensures.net c.args.dest.0 _)

pub returns-then-is_empty-clause-weight : goal.returns-then-is_empty-clause-weight
returns-then-is_empty-clause-weight c =
    let net = c.args.net.now in
    let walk = c.args.walk.now in
    elim c.then-is_empty.branch [
      | then-is_empty-via-then-is_empty w ↦ empty_weight net c.args.dest.0 walk w.if-is_empty.ensures
      | then-is_empty-via-else-is_empty+then-not-are_nodes_of w ↦
          sym (others_no_weight net c.node_count-count.ensures.net c.args.dest.0 (numbers walk) (λ h. let e = w.are_nodes_of.ensures.1 h in let f = w.if-not-are_nodes_of.true in absurd (cc)))
    ]

pub returns-clause-weight : goal.returns-clause-weight
returns-clause-weight c =
    let net = c.args.net.now in
    let walk = c.args.walk.now in
    let whole = weight_at_last net c.args.dest.0 walk (record { 0 = 0 }) (not_empty (length walk) c.if-is_empty.ensures) in
    if_ok c.carry.result c.carry.ensures (λ w p. p ∙ (ap (carried net (numbers walk)) c.origin_value.ensures ∙ whole))

pub returns-clause-no_walk : goal.returns-clause-no_walk
returns-clause-no_walk c = λ h.
    let net = c.args.net.now in
    let walk = c.args.walk.now in
    let whole = weight_at_last net c.args.dest.0 walk (record { 0 = 0 }) (not_empty (length walk) c.if-is_empty.ensures) in
    let none = no_walk_no_weight net c.node_count-count.ensures.net c.args.dest.0 (numbers walk) h in
    if_ok c.carry.result c.carry.ensures (λ w p. none_of pure_value w (p ∙ (ap (carried net (numbers walk)) c.origin_value.ensures ∙ (whole ∙ none))))
