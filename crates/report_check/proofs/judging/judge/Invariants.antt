use Rattle.std.proofs.Common.{map}
use Rattle.net_graph.specs.Views.{rows_of}
use Rattle.report_check.specs.Findings.{OptimalBefore, StableBefore}
use Rattle.report_check.specs.Views.{pure_optimal, pure_stable}
use Rattle.report_check.proofs.judging.judge.Given as goal

-- what the tables so far show
abbrev pub invariant-loop-table : goal.invariant-loop-table
invariant-loop-table g l = record {
  optimal : OptimalBefore l.net (map rows_of l.tables) l.table-index (pure_optimal l.found.optimal);
  stable : StableBefore l.net (map rows_of l.tables) l.table-index (pure_stable l.found.stable);
}
