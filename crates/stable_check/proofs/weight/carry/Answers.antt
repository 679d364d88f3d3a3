use Rattle.std.proofs.Common.{◌≤◌, ◌-◌, ◌+◌, length, option_map, sym, ◌∙◌, ap, arith}
use Rattle.alg_model.specs.Views.{pure_value}
use Rattle.net_graph.specs.Walks.{along}
use Rattle.stable_check.specs.declared.weight.TheConstants.{MAX_WALK_NODES}
use Rattle.stable_check.specs.WalkWeights.{carried_last, carried_more, node_within, any_small, along_small, lent}
use Rattle.stable_check.proofs.weight.carry.Goals as goal

pub loop-at-init : goal.loop-at-init
loop-at-init c =
    let nodes = c.args.nodes.now in
    let some = c.requires.some in
    record {
      within = omega arith;
      weight = c.in_ok-weight.ensures ∙ sym (carried_last c.args.net.now nodes (length nodes - 1) (option_map (λ v. pure_value v.now) c.args.value) (omega arith));
      small = rw c.in_ok-weight.ensures (any_small c.args.net.now 1 (length nodes - (length nodes - 1)) (option_map (λ v. pure_value v.now) c.args.value) (omega arith) c.requires.value);
    }

pub along-requires-clause-tail : goal.along-requires-clause-tail
along-requires-clause-tail c = node_within c.args.net.now c.args.nodes.now (c.loop-at.at - 1) _ c.requires.nodes (let w = c.loop-at.invariant.within in omega arith)

pub along-requires-clause-value : goal.along-requires-clause-value
along-requires-clause-value c =
    let nodes = c.args.nodes.now in
    let small = any_small c.args.net.now (length nodes - c.loop-at.at) MAX_WALK_NODES (option_map pure_value c.loop-at.weight) (let f = c.requires.few in omega arith) c.loop-at.invariant.small in
    rw (lent pure_value c.as_ref.result c.loop-at.weight c.as_ref.ensures.value) small

pub loop-at-preserved : goal.loop-at-preserved
loop-at-preserved c =
    let net = c.args.net.now in
    let nodes = c.args.nodes.now in
    let at = c.loop-at.at in
    let within = c.loop-at.invariant.within in
    let made = rw (lent pure_value c.as_ref.result c.loop-at.weight c.as_ref.ensures.value) at c.in_ok-weight-2.ensures in
    let more = carried_more net nodes at _ (option_map (λ v. pure_value v.now) c.args.value) c.loop-at-test.true within in
    let steps : (length nodes - at) + 1 ≤ length nodes - (at - 1) = omega (arith, c.loop-at-test.true) in
    record {
      within = omega arith;
      weight = made ∙ (ap (along net _ _) c.loop-at.invariant.weight ∙ sym more);
      small = rw made (any_small net ((length nodes - at) + 1) (length nodes - (at - 1)) _ steps (along_small net c.requires.net _ _ (length nodes - at) (option_map pure_value c.loop-at.weight) c.loop-at.invariant.small));
    }
