use Rattle.std.proofs.Common.{◌≡◌, ℕ, None, length, take, option_map, replicate, vec_len, find, ◌==◌}
use Rattle.alg_model.specs.Views.{pure_value}
use Rattle.net_graph.specs.Nets.{PureOrigin, origins_of}
use Rattle.stable_check.specs.Checks.{own_at}
use Rattle.stable_check.proofs.own.OwnValues.of.Given as goal

abbrev pub invariant-loop-node : goal.invariant-loop-node
invariant-loop-node l = l.values.items ≡ replicate l._node None

-- the first of the origins so far at each node
abbrev pub invariant-loop-origin : goal.invariant-loop-origin
invariant-loop-origin l = record {
  count : vec_len l.values ≡ length l.net.nodes;
  each : (k : ℕ) → option_map (λ v. pure_value v.now) (own_at l.values.items k)
      ≡ option_map (λ (o : PureOrigin). o.value) (find (λ (o : PureOrigin). o.node == k) (take l.origin-index (origins_of l.net l.fn.dest.0)));
}
