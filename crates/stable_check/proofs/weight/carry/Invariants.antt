use Rattle.std.proofs.Common.{◌≡◌, ◌<◌, ◌-◌, IfSome, length, drop, option_map}
use Rattle.meta_base.specs.NodePaths.{numbers}
use Rattle.alg_model.specs.Views.{pure_value}
use Rattle.stable_check.specs.Checks.{carried, IsSmall}
use Rattle.stable_check.proofs.weight.carry.Given as goal

-- the weight is what the arcs from the node at that place on made of the value
abbrev pub invariant-loop-at : goal.invariant-loop-at
invariant-loop-at l = record {
  within : l.at < length l.nodes;
  weight : option_map pure_value l.weight ≡ carried l.net (numbers (drop l.at l.nodes)) (option_map (λ v. pure_value v.now) l.value);
  small : IfSome (option_map pure_value l.weight) (IsSmall l.net (length l.nodes - l.at));
}

abbrev pub decreases-loop-at : goal.decreases-loop-at
decreases-loop-at l = l.at
