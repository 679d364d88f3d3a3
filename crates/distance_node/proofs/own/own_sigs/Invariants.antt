use Rattle.std.proofs.Common.{◌≡◌, ◌<◌, ℕ, Some, length}
use Rattle.std.specs.Prelude.{option_map}
use Rattle.net_graph.specs.Nets.{origin_value}
use Rattle.distance_node.specs.Chosen.{entry_of}
use Rattle.distance_node.proofs.own.own_sigs.Given as goal

-- the values of the destinations so far
abbrev pub invariant-loop-dest : goal.invariant-loop-dest
invariant-loop-dest g l = record {
  count : length l.own.items ≡ l.dest;
  values : (d : ℕ) → d < l.dest → option_map (g.A.Algebra.sig_value l.fn.algebra) (entry_of l.own.items d) ≡ origin_value l.fn.net d l.fn.node.0;
  sigs : (d : ℕ) (s : _) → entry_of l.own.items d ≡ Some s → g.A.Algebra.is_sig l.fn.algebra s;
}
