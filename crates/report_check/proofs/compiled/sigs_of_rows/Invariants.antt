use Rattle.std.proofs.Common.{◌≡◌, ℕ, Option, Some, IfSome, option_map, vec_len, slice_get}
use Rattle.net_graph.specs.Tables.{value_at}
use Rattle.net_graph.specs.Views.{rows_of}
use Rattle.report_check.proofs.compiled.sigs_of_rows.Given as goal

-- what stands for the values so far
abbrev pub invariant-loop-row : goal.invariant-loop-row
invariant-loop-row g l = record {
  count : vec_len l.sigs ≡ l.row-index;
  each : (k : ℕ) (o : Option g.row.A-Sig.Denot) → slice_get l.sigs.items k ≡ Some o → IfSome o (g.A.Algebra.is_sig l.algebra) × (option_map (g.A.Algebra.sig_value l.algebra) o ≡ value_at (rows_of l.table) k);
}
