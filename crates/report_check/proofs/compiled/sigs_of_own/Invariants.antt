use Rattle.std.proofs.Common.{◌≡◌, ℕ, Option, Some, IfSome, option_map, vec_len, slice_get}
use Rattle.net_graph.specs.Nets.{origin_value}
use Rattle.report_check.proofs.compiled.sigs_of_own.Given as goal

-- what stands for the values so far
abbrev pub invariant-loop-value : goal.invariant-loop-value
invariant-loop-value g l = record {
  count : vec_len l.sigs ≡ l.value-index;
  each : (k : ℕ) (o : Option g.row.A-Sig.Denot) → slice_get l.sigs.items k ≡ Some o → IfSome o (g.A.Algebra.is_sig l.algebra) × (option_map (g.A.Algebra.sig_value l.algebra) o ≡ origin_value l.net l.fn.dest.0 k);
}
