use Rattle.std.proofs.Common.{◌≡◌, ◌++◌, length, map}
use Rattle.std.specs.Vec.Iter.{into_iter_items, into_iter_len}
use Rattle.net_graph.specs.Views.{rows_of}
use Rattle.report_check.specs.Views.{pure_hops}
use Rattle.metacli.specs.Outcome.{all_hops}
use Rattle.metacli.proofs.NextHops.{hops_after}
use Rattle.metacli.proofs.hopping.hops_over.Given as goal

-- the next hops so far and those of the tables that are left are all, and the tables are gone through one by one
abbrev pub invariant-loop-table : goal.invariant-loop-table
invariant-loop-table g l = record {
  so_far : map pure_hops l.many.items ++ hops_after l.net l.fn.tables (length l.yielded) ≡ all_hops l.net 0 (map rows_of l.fn.tables);
  items : into_iter_items l.initial.table-iterator ≡ l.fn.tables;
  count : into_iter_len l.initial.table-iterator ≡ length l.fn.tables;
}
