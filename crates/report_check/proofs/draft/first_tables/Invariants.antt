use Rattle.std.proofs.Common.{◌≡◌, [], map, replicate, vec_len}
use Rattle.net_graph.specs.Tables.{OnTablesFrom, TableOf}
use Rattle.net_graph.specs.Views.{rows_of}
use Rattle.report_check.specs.Views.{AreOfDests}
use Rattle.report_check.proofs.draft.first_tables.Given as goal

-- an empty table for each destination so far
abbrev pub invariant-loop-dest : goal.invariant-loop-dest
invariant-loop-dest l = record {
  count : vec_len l.tables ≡ l.dest;
  tables : map rows_of l.tables.items ≡ replicate l.dest [];
  table_of : OnTablesFrom (TableOf l.net) 0 (map rows_of l.tables.items);
  dests : AreOfDests 0 l.tables.items;
}
